use mathlib.Core.Path.{◌≡◌}
use Prim.Native.Nat.{◌+◌}
use lib.ListN.{length}
use Rattle.lists.specs.Sums.{total}
use Rattle.lists.specs.Lists.{tab, over}
use Rattle.chain.specs.Chain.{value_at}
use Rattle.block_encoder.specs.Internal.{part_symbols}
use Rattle.block_encoder.proofs.symbols.add_character.Given as goal

abbrev pub invariant-loop-t : goal.invariant-loop-t
invariant-loop-t l =
    (length l.symbols ≡ 64) × (l.symbols ≡ over (tab (λ k. total (l.q + 1) (value_at (length l.codes) l.codes k)) l.t) (part_symbols l.codes l.q))
