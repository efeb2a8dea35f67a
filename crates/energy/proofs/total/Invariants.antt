use Rattle.std.proofs.Common.{◌≡◌, ◌*◌, ◌≤◌}
use Rattle.lists.specs.Lists.{num}
use Rattle.lists.specs.Sums.{total}
use Rattle.energy.proofs.total.Given as goal

abbrev pub invariant-loop-weight : goal.invariant-loop-weight
invariant-loop-weight l = (l.sum ≤ l.weight-index * 225) × (l.sum ≡ total l.weight-index (λ k. num l.weights k * num l.weights k))
