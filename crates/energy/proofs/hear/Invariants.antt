use mathlib.Core.Path.{◌≡◌}
use lib.ListN.{replicate}
use Rattle.lists.specs.Lists.{tab, num, over}
use Rattle.block_decoder.specs.Internal.{seen_symbol}
use Rattle.energy.proofs.hear.Given as goal

abbrev pub invariant-loop-t : goal.invariant-loop-t
invariant-loop-t l =
    l.symbols ≡ over (tab (λ k. seen_symbol (num l.tones k)) l.t) (replicate 64 0)
