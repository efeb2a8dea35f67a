use mathlib.Core.Path.{◌≡◌}
use lib.ListN.{replicate}
use Rattle.lists.specs.Lists.{tab, num, over}
use Rattle.block_decoder.specs.Decoding.{heard_weight}
use Rattle.block_decoder.proofs.heard_weights.Given as goal

abbrev pub invariant-loop-t : goal.invariant-loop-t
invariant-loop-t l = (l.heard ≡ over (tab (λ k. heard_weight (num l.tones k) (num l.weights k)) l.t) (replicate 64 0))
