-- The last of a mode's characters tells whether all are clear, if they are decided up to the first that is not.
use mathlib.Core.Path.{◌≡◌, refl, sym, ◌∙◌, ap}
use mathlib.Core.Bool.{Bool}
use mathlib.Core.List.{List}
use Prim.Native.Nat.{ℕ, ◌+◌, ◌-◌, ◌<◌, ◌≤◌}
use native.Mathlib.Decide.{dec_lt}
use native.Mathlib.Omega.{arith}
use borrow.Author.Tests.{lt-leb, le-leb, ltb-true, ltb-false}
use lib.Dec.{ltb, leb}
use lib.ListN.{get_or, replicate, get_or-replicate}
use Rattle.lists.specs.Lists.{tab, over}
use Rattle.lists.specs.Places.{first}
use Rattle.lists.proofs.Fronts.{over_tab_at, over_past}
use Rattle.lists.proofs.Places.{first_is}
use Rattle.refusal.specs.Checks.{IsSet}
use Rattle.refusal.proofs.Limits.{mode_range, lead_range}
use Rattle.decision.specs.Decision.{none}
use Rattle.decision.specs.declared.Character.{Character}
use Rattle.characters.specs.Symbols.{symbol_character, reached, symbol_characters}
use Rattle.characters.proofs.Reached.{stops_at, goes_on}
use Rattle.search.specs.Internal.{clear_by}

module _ (b m : ℕ) (f : ℕ → Character) (low : 1 ≤ b) (high : b ≤ 8) (set : 1 ≤ m) where
  abbrev unclear : ℕ → Bool
  unclear q = ltb (f q).lead m

  abbrev last : ℕ → Character
  last n = get_or (over (tab f n) (replicate 8 none)) (b - 1) none

  -- decided
  there : (n : ℕ) → b ≤ n → (last n).lead ≡ (f (b - 1)).lead
  there n h = ap (λ (c : Character). c.lead) (over_tab_at f none n (replicate 8 none) (b - 1) (omega arith))

  -- or not
  not_there : (n : ℕ) → n < b → (last n).lead ≡ 0
  not_there n h = ap (λ (c : Character). c.lead) (over_past f none n (replicate 8 none) (b - 1) (omega arith) ∙ get_or-replicate 8 (b - 1) none none (omega arith))

  -- where the one at p is unclear, and those after it are not decided
  unclear_last : (p : ℕ) → p < b → (f p).lead < m → (last (p + 1)).lead < m
  unclear_last p h under = by (dec_lt (p + 1) b)
    where
      by : Dec (p + 1 < b) → (last (p + 1)).lead < m
      by (yes l) = omega (arith, not_there (p + 1) l)
      by (no g) = let e : b - 1 ≡ p = omega arith in omega (arith, there (p + 1) (omega arith), ap (λ (k : ℕ). (f k).lead) e)

  last_tells : leb m (last (reached b m f)).lead ≡ leb b (first unclear b)
  last_tells = by (dec_lt (first unclear b) b)
    where
      by : Dec (first unclear b < b) → leb m (last (reached b m f)).lead ≡ leb b (first unclear b)
      by (yes l) =
          let p = first unclear b in
          let under : (f p).lead < m = ltb-true (f p).lead m ((first_is unclear b).holds l) in
          rw (stops_at b m f (first unclear b) l refl) (lt-leb m (last (p + 1)).lead (unclear_last p l under) ∙ sym (lt-leb b p l))
      by (no g) =
          let all : first unclear b ≡ b = omega (arith, (first_is unclear b).within) in
          let clear : m ≤ (f (b - 1)).lead = ltb-false (f (b - 1)).lead m ((first_is unclear b).lowest (b - 1) (omega arith)) in
          rw (goes_on b m f all, all) (le-leb m (last b).lead (omega (arith, there b (omega arith))) ∙ sym (le-leb b b (omega arith)))

pub clear_last : (b m : ℕ) (values symbols weights : List ℕ) (found : List Character) → IsSet b m → found ≡ over (symbol_characters b m values symbols weights) (replicate 8 none)
    → leb m (get_or found (b - 1) none).lead ≡ clear_by b m values symbols weights
unfolding symbol_characters clear_by
clear_last b m values symbols weights found s e =
    let mode = mode_range b s.mode in
    rw (e, s.mode) (last_tells b m (symbol_character values symbols weights) mode.0 mode.1 (lead_range m s.lead).0)
