use mathlib.Core.Path.{◌≡◌}
use Rattle.lists.specs.Lists.{at}
use Rattle.lists.specs.Sums.{total}
use Rattle.walsh.specs.Energy.{square}
use Rattle.walsh.proofs.sum_of_squares.Given as goal

abbrev pub invariant-loop-word : goal.invariant-loop-word
invariant-loop-word l = l.sum ≡ total l.word (λ c. square (at l.correlations c))
