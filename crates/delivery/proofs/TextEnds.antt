-- The end of a text: its bound, a turn of the loop that looks for it from behind, and its law.
use mathlib.Core.Path.{◌≡◌, refl, sym, ◌∙◌, ap}
use mathlib.Core.Bool.{Bool, true, false, cond}
use mathlib.Core.List.{List}
use mathlib.Core.Logic.{◌⊎◌, inl, inr, ◌≢◌, ⊎_elim}
use Prim.Native.Nat.{ℕ, zero, suc, ◌-◌, ◌<◌, ◌≤◌}
use native.Mathlib.Decide.{ℕ_discrete, dec_lt}
use native.Mathlib.Omega.{arith}
use borrow.Author.Tests.{eq-eqb, ne_eqb, eqb-true, eqb-false}
use lib.Dec.{eqb}
use lib.ListN.{length, get_or-eq_default}
use Rattle.lists.specs.Lists.{num}
use Rattle.delivery.specs.Delivery.{is_zero, end_below, text_end}
use Rattle.delivery.specs.Laws.{IsEnd, TextEnd}

below_within : (codes : List ℕ) (i : ℕ) → end_below codes i ≤ i
unfolding end_below
below_within codes zero = omega arith
below_within codes (suc i) = by (eqb (num codes i) 0) (below_within codes i)
  where
    by : (t : Bool) → end_below codes i ≤ i → cond t (end_below codes i) (suc i) ≤ suc i
    by true h = omega arith
    by false h = omega arith

pub end_within : (codes : List ℕ) → text_end codes ≤ length codes
unfolding text_end
end_within codes = below_within codes (length codes)

pub end_none : (codes : List ℕ) (n : ℕ) → n ≤ 0 → end_below codes n ≡ n
unfolding end_below
end_none codes zero h = refl
end_none codes (suc n) h = absurd (omega arith)

module _ (codes : List ℕ) (n : ℕ) (h : 0 < n) where
  last : n ≡ suc (n - 1)
  last = omega arith

  pub end_here : (num codes (n - 1) ≡ 0 → ⊥) → end_below codes n ≡ n
  unfolding end_below
  end_here e = rw last (simp (ne_eqb (num codes (n - 1)) 0 e))

  pub end_before : num codes (n - 1) ≡ 0 → end_below codes (n - 1) ≡ end_below codes n
  unfolding end_below
  end_before e = sym (ap (end_below codes) last ∙ simp (eq-eqb (num codes (n - 1)) 0 e))

-- ---- what the end is

module _ (codes : List ℕ) where
  below_last : (i : ℕ) → (end_below codes i ≡ 0) ⊎ (num codes (end_below codes i - 1) ≢ 0)
  unfolding end_below
  below_last zero = inl refl
  below_last (suc i) = by (below_last i) (is_zero codes i) refl
    where
      by : (end_below codes i ≡ 0) ⊎ (num codes (end_below codes i - 1) ≢ 0) → (z : Bool) → is_zero codes i ≡ z
          → (cond z (end_below codes i) (suc i) ≡ 0) ⊎ (num codes (cond z (end_below codes i) (suc i) - 1) ≢ 0)
      by r true e = r
      by r false e = inr (let here : suc i - 1 ≡ i = omega arith in rw here (eqb-false (num codes i) 0 e))

  below_zero : (i j : ℕ) → end_below codes i ≤ j → j < i → num codes j ≡ 0
  unfolding end_below
  below_zero zero j h l = absurd (omega arith)
  below_zero (suc i) j h l = by (below_zero i j) (is_zero codes i) refl h (ℕ_discrete j i)
    where
      by : (end_below codes i ≤ j → j < i → num codes j ≡ 0) → (z : Bool) → is_zero codes i ≡ z → cond z (end_below codes i) (suc i) ≤ j → Dec (j ≡ i) → num codes j ≡ 0
      by r true e h (yes s) = rw s (eqb-true (num codes i) 0 e)
      by r true e h (no ne) = r h (omega arith)
      by r false e h d = absurd (omega arith)

  pub end_is : IsEnd codes (text_end codes)
  unfolding text_end
  end_is = record { last = below_last (length codes); zeros = below_zero (length codes) }

  -- the code before an end is no 0, so no zeros begin before it
  end_low : (n e : ℕ) → IsEnd codes n → IsEnd codes e → n < e → ⊥
  end_low n e f g h =
      ⊎_elim (λ z. omega arith) (λ nonzero. by nonzero (dec_lt (e - 1) (length codes))) g.last
    where
      by : num codes (e - 1) ≢ 0 → Dec (e - 1 < length codes) → ⊥
      by nonzero (yes l) = nonzero (f.zeros (e - 1) (omega arith) l)
      by nonzero (no l) = nonzero (get_or-eq_default codes 0 {n = e - 1} (omega arith))

  pub end_only : (n : ℕ) → IsEnd codes n → n ≡ text_end codes
  end_only n f = by (dec_lt n (text_end codes)) (dec_lt (text_end codes) n)
    where
      by : Dec (n < text_end codes) → Dec (text_end codes < n) → n ≡ text_end codes
      by (yes l) d = absurd (end_low n (text_end codes) f end_is l)
      by (no k) (yes l) = absurd (end_low (text_end codes) n end_is f l)
      by (no k) (no l) = omega arith

pub text_end_lem : TextEnd
text_end_lem = record { found = end_is; only = end_only }
