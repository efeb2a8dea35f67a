use Rattle.std.proofs.Common.{◌≡◌, ltb}
use Rattle.lists.specs.Places.{first}
use Rattle.weight_range.specs.Range.{bad_weight}
use Rattle.weight_range.proofs.has_bad_weight.Given as goal

abbrev pub invariant-loop-weight : goal.invariant-loop-weight
invariant-loop-weight l = l.found ≡ ltb (first (bad_weight l.greatest l.weights) l.weight-index) l.weight-index
