use mathlib.Core.Path.{◌≡◌}
use Prim.Native.Nat.{◌≤◌, ◌-◌}
use lib.Dec.{ltb}
use lib.ListN.{replicate}
use Rattle.lists.specs.Lists.{tab, over}
use Rattle.lists.specs.Places.{scan, first}
use Rattle.decision.specs.Decision.{none}
use Rattle.characters.specs.Symbols.{symbol_character}
use Rattle.characters.proofs.decide.Given as goal

abbrev pub invariant-loop-q : goal.invariant-loop-q
invariant-loop-q l =
    (l.mode ≤ 8) × (l.characters ≡ over (tab (symbol_character l.values l.symbols l.weights) l.q) (replicate 8 none))
    × (scan (λ k. ltb (symbol_character l.values l.symbols l.weights k).lead l.least_lead) l.q (l.mode - l.q) ≡ first (λ k. ltb (symbol_character l.values l.symbols l.weights k).lead l.least_lead) l.mode)
