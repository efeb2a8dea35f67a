-- Before each turn `most` is the largest of the keys so far.
use Rattle.std.proofs.Common.{◌≡◌, take, max}
use Rattle.std.specs.List.{fold}
use Rattle.lead_finder.proofs.keys.largest.Given as goal

abbrev pub invariant-loop-word : goal.invariant-loop-word
invariant-loop-word l = l.most ≡ fold max 0 (take l.word l.keys)
