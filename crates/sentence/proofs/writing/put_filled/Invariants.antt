-- Before each turn the text of the bytes passed is put.
use Rattle.std.proofs.Common.{take}
use Rattle.text.proofs.Puts.{Put}
use Rattle.sentence.specs.Patterns.{filled}
use Rattle.sentence.proofs.writing.put_filled.Given as goal

abbrev pub invariant-loop-p : goal.invariant-loop-p
invariant-loop-p l = Put (filled l.place l.lead (take l.p-index l.pattern)) l.initial.out l.at l.out
