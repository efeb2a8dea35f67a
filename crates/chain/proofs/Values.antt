-- The values of the places round a symbol: the first eight, how all come of those, and the sum of a symbol's.
use mathlib.Core.Path.{◌≡◌, refl, ◌∙◌, ap}
use mathlib.Core.Bool.{Bool, true, false, cond}
use mathlib.Core.List.{List, []}
use Prim.Native.Nat.{ℕ, zero, suc, ◌+◌, ◌-◌, ◌<◌, ◌≤◌, ◌%◌, ◌^◌}
use native.Mathlib.Nat.{mod-lt, mod-mod_of_dvd, dvd_of_mod-eq-zero}
use native.Mathlib.Omega.{arith}
use lib.ListN.{get_or, replicate}
use Rattle.lists.specs.Lists.{tab, num}
use Rattle.lists.specs.Sums.{total}
use Rattle.lists.proofs.Sums.{total_turned}
use Rattle.lists.proofs.Tables.{tab_at, tab_ext}
use Rattle.refusal.specs.Checks.{is_mode}
use Rattle.chain.specs.Tables.{place_value, place_values}
use Rattle.chain.specs.Internal.{WholeRounds, again}
use Rattle.chain.proofs.Binary.{number_below}

-- ---- the rows of all modes

pub row_of_mode : (rows : List (List ℕ)) (b : ℕ) → rows ≡ tab (λ k. tab (place_value (suc k)) 8) 8 → 1 ≤ b → b ≤ 8 → get_or rows (b - 1) [] ≡ tab (place_value b) 8
row_of_mode rows b e low high =
    let next : suc (b - 1) ≡ b = omega arith in
    rw e (tab_at (λ k. tab (place_value (suc k)) 8) [] 8 (b - 1) (omega arith)) ∙ ap (λ (m : ℕ). tab (place_value m) 8) next

-- ---- all of them

pub eight_whole : (b : ℕ) → 1 ≤ b → b < 5 → (b ≡ 3 → ⊥) → 8 % b ≡ 0
eight_whole zero low high other = absurd (omega arith)
eight_whole (suc zero) low high other = refl
eight_whole (suc (suc zero)) low high other = refl
eight_whole (suc (suc (suc zero))) low high other = absurd (other refl)
eight_whole (suc (suc (suc (suc zero)))) low high other = refl
eight_whole (suc (suc (suc (suc (suc n))))) low high other = absurd (omega arith)

pub values_again : (b n : ℕ) (row : List ℕ) → WholeRounds b n → row ≡ tab (place_value b) 8 → again n row 72 ≡ tab (place_value b) 72
unfolding again place_value
values_again b n row w e =
    tab_ext 0 _ (place_value b) 72
    (λ i l.
    ap (λ (x : List ℕ). num x (i % n)) e
    ∙ tab_at (place_value b) 0 8 (i % n) (omega (arith, w.inside, mod-lt i w.some))
    ∙ ap (λ (k : ℕ). 2 ^ k) (mod-mod_of_dvd b i (dvd_of_mod-eq-zero b w.whole)))

-- a symbol that is all ones is below 2 ^ b too
pub places_below : (b t : ℕ) → total b (λ q. place_value b (q + t)) < 2 ^ b
unfolding place_value
places_below b t = rw (total_turned b t (λ i. 2 ^ i)) (number_below (λ i. true) b)

-- ---- the table, of a mode and of none

pub mode_values : (b : ℕ) → is_mode b ≡ true → place_values b ≡ tab (place_value b) 72
unfolding place_values
mode_values b e = ap (λ (t : Bool). tab (λ i. cond t (place_value b i) 0) 72) e

pub no_mode_values : (b : ℕ) → is_mode b ≡ false → place_values b ≡ replicate 72 0
unfolding place_values tab
no_mode_values b e = ap (λ (t : Bool). tab (λ i. cond t (place_value b i) 0) 72) e
