-- Two steps at once: what they make of the four numbers at i, i + 16, i + 32 and i + 48, and a turn of the loop that writes it.
use mathlib.Core.Path.{◌≡◌, sym, ◌∙◌, ap, ap₂}
use mathlib.Core.List.{List}
use Prim.Native.Nat.{ℕ, ◌+◌, ◌*◌, ◌<◌, ◌≤◌}
use native.Mathlib.Omega.{arith}
use lib.IntN.{ℤ, pos, neg_ℤ, ◌+ℤ◌, ◌-ℤ◌, neg_ℤ-+ℤ}
use lib.ListN.{length, set}
use Rattle.lists.specs.Lists.{tab, at, over}
use Rattle.lists.proofs.Fronts.{over_set}
use Rattle.lists.proofs.Integers.{add_cross}
use Rattle.lists.proofs.Tables.{tab_at}
use Rattle.walsh.specs.Transform.{butterfly}
use Rattle.walsh.specs.Internal.{step_of, Within}
use Rattle.walsh.proofs.Locals.{kept, Holds, holds_itself, sum_holds, difference_holds, AllFit, all_fit}
use Rattle.walsh.proofs.Butterflies.{butterfly_even, butterfly_odd}

-- ---- sums and differences of pairs, taken the other way round

sub_cross : (a b c d : ℤ) → (a +ℤ b) -ℤ (c +ℤ d) ≡ (a -ℤ c) +ℤ (b -ℤ d)
sub_cross a b c d = ap (λ (z : ℤ). (a +ℤ b) +ℤ z) (neg_ℤ-+ℤ c d) ∙ add_cross a b (neg_ℤ c) (neg_ℤ d)

differences_cross : (a b c d : ℤ) → (a -ℤ b) -ℤ (c -ℤ d) ≡ (a -ℤ c) -ℤ (b -ℤ d)
differences_cross a b c d = sub_cross a (neg_ℤ b) c (neg_ℤ d) ∙ ap (λ (z : ℤ). (a -ℤ c) +ℤ z) (sym (neg_ℤ-+ℤ b (neg_ℤ d)))

-- ---- the four numbers that two steps make

module _ (x : List ℤ) (i : ℕ) (h : i < 16) where
  step_at : (j : ℕ) → j < 64 → at (step_of x) j ≡ butterfly (at x) j
  unfolding step_of
  step_at j l = tab_at (butterfly (at x)) (pos 0) 64 j l

  sum_at : at (step_of x) (2 * i) ≡ at x i +ℤ at x (i + 32)
  sum_at = step_at (2 * i) (omega arith) ∙ butterfly_even (at x) i

  difference_at : at (step_of x) (2 * i + 1) ≡ at x (i + 32) -ℤ at x i
  difference_at = step_at (2 * i + 1) (omega arith) ∙ butterfly_odd (at x) i

  other_sum_at : at (step_of x) (2 * i + 32) ≡ at x (i + 16) +ℤ at x (i + 48)
  other_sum_at =
      let e : 2 * i + 32 ≡ 2 * (i + 16) = omega arith in
      let far : i + 16 + 32 ≡ i + 48 = omega arith in
      rw e (step_at (2 * (i + 16)) (omega arith) ∙ rw far at (butterfly_even (at x) (i + 16)))

  other_difference_at : at (step_of x) (2 * i + 1 + 32) ≡ at x (i + 48) -ℤ at x (i + 16)
  other_difference_at =
      let e : 2 * i + 1 + 32 ≡ 2 * (i + 16) + 1 = omega arith in
      let far : i + 16 + 32 ≡ i + 48 = omega arith in
      rw e (step_at (2 * (i + 16) + 1) (omega arith) ∙ rw far at (butterfly_odd (at x) (i + 16)))

  pub first_of_four : (at x i +ℤ at x (i + 16)) +ℤ (at x (i + 32) +ℤ at x (i + 48)) ≡ butterfly (at (step_of x)) (4 * i)
  first_of_four =
      add_cross (at x i) (at x (i + 16)) (at x (i + 32)) (at x (i + 48))
      ∙ sym (ap (butterfly (at (step_of x))) (omega arith) ∙ butterfly_even (at (step_of x)) (2 * i) ∙ ap₂ (λ (a b : ℤ). a +ℤ b) sum_at other_sum_at)

  pub second_of_four : (at x (i + 16) -ℤ at x i) +ℤ (at x (i + 48) -ℤ at x (i + 32)) ≡ butterfly (at (step_of x)) (4 * i + 1)
  second_of_four =
      sym (sub_cross (at x (i + 16)) (at x (i + 48)) (at x i) (at x (i + 32)))
      ∙ sym (ap (butterfly (at (step_of x))) (omega arith) ∙ butterfly_odd (at (step_of x)) (2 * i) ∙ ap₂ (λ (a b : ℤ). a -ℤ b) other_sum_at sum_at)

  pub third_of_four : (at x (i + 32) +ℤ at x (i + 48)) -ℤ (at x i +ℤ at x (i + 16)) ≡ butterfly (at (step_of x)) (4 * i + 2)
  third_of_four =
      sub_cross (at x (i + 32)) (at x (i + 48)) (at x i) (at x (i + 16))
      ∙ sym (ap (butterfly (at (step_of x))) (omega arith) ∙ butterfly_even (at (step_of x)) (2 * i + 1) ∙ ap₂ (λ (a b : ℤ). a +ℤ b) difference_at other_difference_at)

  pub fourth_of_four : (at x (i + 48) -ℤ at x (i + 32)) -ℤ (at x (i + 16) -ℤ at x i) ≡ butterfly (at (step_of x)) (4 * i + 3)
  fourth_of_four =
      differences_cross (at x (i + 48)) (at x (i + 32)) (at x (i + 16)) (at x i)
      ∙ sym (ap (butterfly (at (step_of x))) (omega arith) ∙ butterfly_odd (at (step_of x)) (2 * i + 1) ∙ ap₂ (λ (a b : ℤ). a -ℤ b) other_difference_at difference_at)

-- ---- what the locals hold

module _ (x : List ℤ) (w : Within 2048 x) where
  number : (j : ℕ) → Holds (at x j) (at x j) 2048
  number j = holds_itself (at x j) (w.within j)

  pub added : (j k : ℕ) → Holds (kept (at x j) +ℤ kept (at x k)) (at x j +ℤ at x k) 4096
  added j k = sum_holds (number j) (number k) (omega arith)

  pub subtracted : (j k : ℕ) → Holds (kept (at x j) -ℤ kept (at x k)) (at x j -ℤ at x k) 4096
  subtracted j k = difference_holds (number j) (number k) (omega arith)

-- whatever is added or subtracted, the outcome fits
pub record FourFit (x : List ℤ) (i : ℕ) : Type 0 where
  pub low : AllFit (at x i) (at x (i + 16))
  pub high : AllFit (at x (i + 32)) (at x (i + 48))
  pub sums : AllFit (kept (at x i) +ℤ kept (at x (i + 16))) (kept (at x (i + 32)) +ℤ kept (at x (i + 48)))
  pub differences : AllFit (kept (at x (i + 16)) -ℤ kept (at x i)) (kept (at x (i + 48)) -ℤ kept (at x (i + 32)))

pub four_fit : (x : List ℤ) → Within 2048 x → (i : ℕ) → FourFit x i
four_fit x w i = record {
  low = all_fit (number x w i) (number x w (i + 16)) (omega arith);
  high = all_fit (number x w (i + 32)) (number x w (i + 48)) (omega arith);
  sums = all_fit (added x w i (i + 16)) (added x w (i + 32) (i + 48)) (omega arith);
  differences = all_fit (subtracted x w (i + 16) i) (subtracted x w (i + 48) (i + 32)) (omega arith);
}

-- ---- a turn

one_more : (f : ℕ → ℤ) (n m : ℕ) (d y : List ℤ) (v : ℤ) → m ≡ n + 1 → m ≤ length d → y ≡ over (tab f n) d → v ≡ f n → set y n v ≡ over (tab f m) d
one_more f n m d y v e h p q = rw e (over_set (pos 0) f n d y v (omega arith) p q)

pub four_more : (f : ℕ → ℤ) (n : ℕ) (d y : List ℤ) (a b c e : ℤ) → n + 4 ≤ length d → y ≡ over (tab f n) d → a ≡ f n → b ≡ f (n + 1) → c ≡ f (n + 2) → e ≡ f (n + 3)
    → set (set (set (set y n a) (n + 1) b) (n + 2) c) (n + 3) e ≡ over (tab f (n + 4)) d
four_more f n d y a b c e h p p0 p1 p2 p3 =
    one_more f (n + 3) (n + 4) d _ e (omega arith) (omega arith)
    (one_more f (n + 2) (n + 3) d _ c (omega arith) (omega arith)
    (one_more f (n + 1) (n + 2) d _ b (omega arith) (omega arith)
    (one_more f n (n + 1) d y a (omega arith) (omega arith) p p0) p1) p2) p3
