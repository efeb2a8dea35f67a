use Rattle.std.proofs.Common.{arith}
use Rattle.sender.proofs.Bytes.{moving_more, moving_end}
use Rattle.sender.proofs.places.remove.Goals as goal

pub loop-j-preserved : goal.loop-j-preserved
loop-j-preserved c =
    let l = c.loop-j in
    let a = c.args in
    moving_more a.at a.count a.state.now l.state l.j l.invariant (omega (arith, c.loop-j-test.true)) (omega (arith, c.loop-j-test.true, c.requires.1))

pub returns : goal.returns
returns c = moving_end c.args.at c.args.count c.args.state.now c.loop-j.state c.loop-j.j c.loop-j.invariant (omega (arith, c.loop-j-test.false)) c.requires.1
