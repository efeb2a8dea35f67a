use mathlib.Core.Path.{◌≡◌}
use lib.ListN.{replicate}
use Rattle.lists.specs.Lists.{tab, num, over}
use Rattle.checked_block.specs.Checked.{weight_below}
use Rattle.checked_block.proofs.weights.Given as goal

abbrev pub invariant-loop-t : goal.invariant-loop-t
invariant-loop-t l = (l.weights ≡ over (tab (λ k. weight_below l.limit (num l.tones k)) l.t) (replicate 64 0))
