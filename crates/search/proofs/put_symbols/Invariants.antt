use mathlib.Core.Path.{◌≡◌}
use Prim.Native.Nat.{◌%◌}
use lib.ListN.{length}
use Rattle.lists.specs.Lists.{tab, num, over}
use Rattle.chain.specs.Tables.{symbol_of}
use Rattle.search.proofs.put_symbols.Given as goal

abbrev pub invariant-loop-t : goal.invariant-loop-t
invariant-loop-t l =
    (length l.symbols ≡ length l.initial.symbols) × (l.symbols ≡ over (tab (λ k. symbol_of (num l.run k % 256)) l.t) l.initial.symbols)
