use Rattle.sender.proofs.Bytes.{Moving}
use Rattle.sender.proofs.places.remove.Given as goal

abbrev pub invariant-loop-j : goal.invariant-loop-j
invariant-loop-j l = Moving l.at l.count l.initial.state l.state l.j
