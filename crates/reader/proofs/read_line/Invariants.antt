-- Before each turn, reading on from the place gives what reading from the start gives.
use Rattle.reader.proofs.Stretches.{ReadsOn}
use Rattle.reader.proofs.read_line.Given as goal

abbrev pub invariant-loop-at : goal.invariant-loop-at
invariant-loop-at l = ReadsOn l.marks l.bytes l.initial.line l.from l.initial.tones l.line l.at l.tones
