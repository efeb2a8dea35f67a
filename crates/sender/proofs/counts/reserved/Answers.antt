use Rattle.std.proofs.Common.{◌≡◌, refl, max, arith}
use Rattle.lists.specs.Sums.{total}
use Rattle.lists.proofs.Sums.{total_more}
use Rattle.sender.specs.Queues.{reserved}
use Rattle.sender.specs.State.{counts_in}
use Rattle.sender.proofs.counts.reserved.Goals as goal

pub loop-d-init : goal.loop-d-init
unfolding total
loop-d-init c = (refl, omega arith)

pub loop-d-preserved : goal.loop-d-preserved
loop-d-preserved c =
    let l = c.loop-d in
    (omega (arith, total_more l.d (λ i. max 4 (counts_in c.args.state.now i))), omega arith)

pub returns : goal.returns
unfolding reserved
returns c =
    let l = c.loop-d in
    let e : l.d ≡ 30 = omega arith in
    (rw e at l.invariant.0, omega (arith, l.invariant.1))
