-- Before each turn the bytes of the pattern that are passed took the bytes that are passed.
use Rattle.sentence.proofs.MatchCases.{Passed}
use Rattle.sentence.proofs.matching.match_pattern.Given as goal

abbrev pub invariant-loop-p : goal.invariant-loop-p
invariant-loop-p l = Passed l.pattern l.bytes l.p-index l.at l.place l.lead
