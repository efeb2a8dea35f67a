use Rattle.std.proofs.Common.{◌≡◌}
use Rattle.lists.specs.Sums.{total}
use Rattle.lists.specs.Caps.{capped}
use Rattle.demands.specs.Demand.{damage_at}
use Rattle.trial.proofs.weighing.damage_in.Given as goal

abbrev pub invariant-loop-t : goal.invariant-loop-t
invariant-loop-t l = l.damage ≡ capped (total l.t (damage_at 15 l.sent l.heard l.weights))
