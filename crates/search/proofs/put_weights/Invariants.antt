use mathlib.Core.Path.{◌≡◌}
use lib.ListN.{length}
use Rattle.lists.specs.Lists.{tab, num, over}
use Rattle.checked_block.specs.Checked.{weight_below}
use Rattle.search.proofs.put_weights.Given as goal

abbrev pub invariant-loop-t : goal.invariant-loop-t
invariant-loop-t l =
    (length l.weights ≡ length l.initial.weights) × (l.weights ≡ over (tab (λ k. weight_below l.limit (num l.run k)) l.t) l.initial.weights)
