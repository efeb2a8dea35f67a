-- A whole number k times as large: its magnitude and sign; and k times a sum, or a number with a sign put on it.
use mathlib.Core.Path.{◌≡◌, refl, sym, ◌∙◌, ap, ap₂}
use mathlib.Core.Bool.{Bool, true, false}
use Prim.Native.Nat.{ℕ, zero, suc, ◌*◌, ◌≤◌}
use native.Mathlib.Nat.{mul-suc}
use native.Mathlib.Omega.{arith}
use lib.IntN.{ℤ, pos, negsuc, neg_ℤ, nat_abs, ◌+ℤ◌, ◌*ℤ◌, neg_ℤ-neg_ℤ, zero-*ℤ, *ℤ-zero, *ℤ-negsuc, suc_ℤ-*ℤ}
use Rattle.lists.specs.Sums.{sum}
use Rattle.lists.proofs.Integers.{abs_neg, add_cross}
use Rattle.walsh.specs.Words.{signed}
use Rattle.decision.specs.Decision.{negative}

pub abs_times : (k : ℕ) (x : ℤ) → nat_abs (pos k *ℤ x) ≡ k * nat_abs x
abs_times k (pos n) = refl
abs_times k (negsuc n) = abs_neg (pos (k * suc n))

pub negative_times : (k : ℕ) (x : ℤ) → 1 ≤ k → negative (pos k *ℤ x) ≡ negative x
negative_times k (pos n) h = refl
negative_times k (negsuc n) h = by (k * suc n) (let l : 1 ≤ k * suc n = omega (arith, mul-suc k n) in l)
  where
    by : (j : ℕ) → 1 ≤ j → negative (neg_ℤ (pos j)) ≡ true
    by zero l = absurd (omega arith)
    by (suc j) l = refl

times_add : (k : ℕ) (x y : ℤ) → pos k *ℤ (x +ℤ y) ≡ pos k *ℤ x +ℤ pos k *ℤ y
times_add zero x y = zero-*ℤ (x +ℤ y) ∙ sym (ap₂ (λ (a b : ℤ). a +ℤ b) (zero-*ℤ x) (zero-*ℤ y))
times_add (suc k) x y =
    suc_ℤ-*ℤ (pos k) (x +ℤ y)
    ∙ ap (λ (z : ℤ). z +ℤ (x +ℤ y)) (times_add k x y)
    ∙ add_cross (pos k *ℤ x) (pos k *ℤ y) x y
    ∙ sym (ap₂ (λ (a b : ℤ). a +ℤ b) (suc_ℤ-*ℤ (pos k) x) (suc_ℤ-*ℤ (pos k) y))

times_neg : (k : ℕ) (x : ℤ) → pos k *ℤ neg_ℤ x ≡ neg_ℤ (pos k *ℤ x)
times_neg k (pos zero) = *ℤ-zero (pos k) ∙ sym (ap neg_ℤ (*ℤ-zero (pos k)))
times_neg k (pos (suc n)) = *ℤ-negsuc (pos k) n
times_neg k (negsuc n) = sym (neg_ℤ-neg_ℤ (pos k *ℤ pos (suc n))) ∙ ap neg_ℤ (sym (*ℤ-negsuc (pos k) n))

pub times_signed : (k : ℕ) (s : Bool) (x : ℤ) → pos k *ℤ signed s x ≡ signed s (pos k *ℤ x)
times_signed k true x = times_neg k x
times_signed k false x = refl

pub sum_times : (k n : ℕ) (f : ℕ → ℤ) → sum n (λ t. pos k *ℤ f t) ≡ pos k *ℤ sum n f
unfolding sum
sum_times k zero f = sym (*ℤ-zero (pos k))
sum_times k (suc n) f = ap (λ (z : ℤ). z +ℤ pos k *ℤ f n) (sum_times k n f) ∙ sym (times_add k (sum n f) (f n))
