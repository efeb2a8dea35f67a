-- A place that is there or not, and the library's search of a list for one.
use Rattle.std.proofs.Common.{◌≡◌, refl, sym, ◌∙◌, ap, Bool, true, false, cond, List, [], ◌∷◌, ℕ, zero, suc, ◌+◌, ◌<◌, ◌≤◌, length, ltb, Some, None, position}
use native.Mathlib.Numerals.{one-add}
use Rattle.std.proofs.lemmas.List.Recursion.{is_position_or_len}
use Rattle.std.proofs.lemmas.Bool.{lt-ltb, le-ltb, ltb-true, ltb-false}
use Rattle.lists.specs.Lists.{num}
use Rattle.lists.specs.Places.{scan, first}
use Rattle.lists.specs.Found.{found}

pub found_at : (n s : ℕ) → s < n → found n s ≡ Some s
unfolding found
found_at n s h = rw (lt-ltb s n h)

pub found_past : (n s : ℕ) → n ≤ s → found n s ≡ None
unfolding found
found_past n s h = rw (le-ltb s n h)

-- a place that is there is s
pub found_some : (n s x : ℕ) → found n s ≡ Some x → (x ≡ s) × (s < n)
unfolding found
found_some n s x e = by (ltb s n) refl e
  where
    by : (b : Bool) → ltb s n ≡ b → cond b (Some s) None ≡ Some x → (x ≡ s) × (s < n)
    by true h f = (cc, ltb-true s n h)
    by false h f = absurd cc

pub found_none : (n s : ℕ) → found n s ≡ None → n ≤ s
unfolding found
found_none n s e = by (ltb s n) refl e
  where
    by : (b : Bool) → ltb s n ≡ b → cond b (Some s) None ≡ None → n ≤ s
    by true h f = absurd cc
    by false h f = ltb-false s n h

-- ---- the library's search

scan_further : (p : ℕ → Bool) (i n : ℕ) → scan p (suc i) n ≡ suc (scan (λ k. p (suc k)) i n)
unfolding scan
scan_further p i zero = refl
scan_further p i (suc n) = by (p (suc i)) (scan_further p (suc i) n)
  where
    by : (b : Bool) → scan p (suc (suc i)) n ≡ suc (scan (λ k. p (suc k)) (suc i) n)
        → cond b (suc i) (scan p (suc (suc i)) n) ≡ suc (cond b i (scan (λ k. p (suc k)) (suc i) n))
    by true e = refl
    by false e = e

pub position_found : (p : ℕ → Bool) (xs : List ℕ) → position p xs ≡ found (length xs) (first (λ i. p (num xs i)) (length xs))
unfolding found scan
position_found p xs =
    ap (λ s. cond (ltb s (length xs)) (Some s) None) (sym (is_position_or_len (λ ys. first (λ i. p (num ys i)) (length ys)) p empty step xs))
  where
    empty : first (λ i. p (num [] i)) 0 ≡ 0
    empty = refl

    step : (x : ℕ) (ys : List ℕ) → first (λ i. p (num (x ∷ ys) i)) (length (x ∷ ys)) ≡ cond (p x) 0 (1 + first (λ i. p (num ys i)) (length ys))
    step x ys = ap (cond (p x) 0) (scan_further (λ i. p (num (x ∷ ys) i)) 0 (length ys) ∙ sym (one-add _))
