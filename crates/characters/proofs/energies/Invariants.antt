use mathlib.Core.Path.{◌≡◌}
use Prim.Native.Nat.{◌≤◌}
use lib.ListN.{replicate}
use Rattle.lists.specs.Lists.{tab, over}
use Rattle.characters.specs.Symbols.{symbol_energy}
use Rattle.characters.proofs.energies.Given as goal

abbrev pub invariant-loop-q : goal.invariant-loop-q
invariant-loop-q l =
    (l.mode ≤ 8) × (l.energies ≡ over (tab (symbol_energy l.values l.symbols l.weights) l.q) (replicate 8 0))
