use Rattle.std.proofs.Common.{arith}
use Rattle.sender.specs.Queues.{Block}
use Rattle.sender.proofs.Storing.{stored_holds}
use Rattle.sender.proofs.lent.store.Goals as goal

pub returns-then-count-lt150 : goal.returns-then-count-lt150
returns-then-count-lt150 c =
    let a = c.args in
    let b : Block = record { mode = a.mode; codes = a.codes.now } in
    let put = rw c.from.ensures at c.put.ensures in
    rw c.from-then-count-lt150.ensures
    (record { left = λ q h free fits. stored_holds q a.state.now a.depot b c.put.new.state h put c.requires.0 (omega arith) fits c.requires.2 })
