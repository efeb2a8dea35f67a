use Rattle.sender.proofs.Serving.{served_holds}
use Rattle.sender.proofs.lent.take_out.Goals as goal

pub returns : goal.returns
returns c =
    let a = c.args in
    let count = c.from-count.ensures in
    record {
      left = λ q h some few e.
          rw count (served_holds q a.state.now a.depot h c.requires.block.0 some few a.at e c.remove.new.state (rw count at c.remove.ensures));
    }
