-- How far the decisions on characters go: a turn of their loop, all of them without a set lead, and what the last of them tells.
use mathlib.Core.Path.{◌≡◌}
use mathlib.Core.Bool.{Bool, true}
use mathlib.Core.List.{List}
use Prim.Native.Nat.{ℕ, ◌+◌, ◌<◌}
use native.Mathlib.Omega.{arith}
use borrow.Author.Tests.{le-ltb}
use lib.Dec.{ltb}
use Rattle.lists.specs.Lists.{tab}
use Rattle.lists.specs.Places.{first}
use Rattle.lists.proofs.Places.{first_none}
use Rattle.refusal.specs.Checks.{is_mode}
use Rattle.decision.specs.declared.Character.{Character}
use Rattle.characters.specs.Symbols.{symbol_character, reached, symbol_characters}

module _ (b m : ℕ) (f : ℕ → Character) where
  abbrev unclear : ℕ → Bool
  unclear q = ltb (f q).lead m

  pub stops_at : (q : ℕ) → q < b → first unclear b ≡ q → reached b m f ≡ q + 1
  unfolding reached
  stops_at q h e = rw e (omega arith)

  pub goes_on : first unclear b ≡ b → reached b m f ≡ b
  unfolding reached
  goes_on e = rw e (omega arith)

-- no lead is under 0
pub all_reached : (b : ℕ) (f : ℕ → Character) → reached b 0 f ≡ b
all_reached b f = goes_on b 0 f (first_none (λ q. ltb (f q).lead 0) b (λ q l. le-ltb (f q).lead 0 (omega arith)))

-- all b characters of a mode
pub all_decided : (b : ℕ) (values symbols weights : List ℕ) → is_mode b ≡ true
    → symbol_characters b 0 values symbols weights ≡ tab (symbol_character values symbols weights) b
unfolding symbol_characters
all_decided b values symbols weights e = rw (e, all_reached b (symbol_character values symbols weights))
