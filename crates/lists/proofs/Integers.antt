-- Whole numbers: the magnitude of a sum, its parity, and sums rearranged; and a property by cases.
use mathlib.Core.Path.{◌≡◌, refl, sym, ◌∙◌, ap}
use mathlib.Core.Bool.{Bool, true, false, not, cond}
use Prim.Native.Nat.{ℕ, zero, suc, ◌+◌, ◌-◌, ◌<◌, ◌≤◌, ◌%◌}
use native.Mathlib.Omega.{arith}
use lib.Dec.{T, ltb, ltb→lt, nltb→le}
use lib.IntN.{ℤ, pos, negsuc, neg_ℤ, nat_abs, sub_ℕ, ◌+ℤ◌, ◌-ℤ◌, +ℤ_assoc, +ℤ_comm}

pub cond_cases : {A : Type 0} (P : A → Type 0) (b : Bool) (x y : A) → (T b → P x) → (T (not b) → P y) → P (cond b x y)
cond_cases P true x y f g = f tt
cond_cases P false x y f g = g tt

-- a difference of natural numbers, by which of them is larger
pub sub_cases : (P : ℤ → Type 0) (a b : ℕ) → (a < b → P (negsuc (b - suc a))) → (b ≤ a → P (pos (a - b))) → P (sub_ℕ a b)
sub_cases P a b f g =
    cond_cases P (ltb a b) (negsuc (b - suc a)) (pos (a - b)) (λ t. f (ltb→lt a b t)) (λ t. g (nltb→le a b t))

pub abs_neg : (x : ℤ) → nat_abs (neg_ℤ x) ≡ nat_abs x
abs_neg (pos zero) = refl
abs_neg (pos (suc n)) = refl
abs_neg (negsuc n) = refl

pub abs_add : (x y : ℤ) → nat_abs (x +ℤ y) ≤ nat_abs x + nat_abs y
abs_add (pos a) (pos b) = omega arith
abs_add (pos a) (negsuc b) = sub_cases (λ z. nat_abs z ≤ a + suc b) a (suc b) (λ h. omega arith) (λ h. omega arith)
abs_add (negsuc a) (pos b) = sub_cases (λ z. nat_abs z ≤ suc a + b) b (suc a) (λ h. omega arith) (λ h. omega arith)
abs_add (negsuc a) (negsuc b) = omega arith

pub abs_sub : (x y : ℤ) → nat_abs (x -ℤ y) ≤ nat_abs x + nat_abs y
abs_sub x y = omega (arith, abs_add x (neg_ℤ y), abs_neg y)

-- a sum has the parity of its parts' magnitudes
pub abs_add_parity : (x y : ℤ) → nat_abs (x +ℤ y) % 2 ≡ (nat_abs x + nat_abs y) % 2
abs_add_parity (pos a) (pos b) = refl
abs_add_parity (pos a) (negsuc b) = sub_cases (λ z. nat_abs z % 2 ≡ (a + suc b) % 2) a (suc b) (λ h. omega arith) (λ h. omega arith)
abs_add_parity (negsuc a) (pos b) = sub_cases (λ z. nat_abs z % 2 ≡ (suc a + b) % 2) b (suc a) (λ h. omega arith) (λ h. omega arith)
abs_add_parity (negsuc a) (negsuc b) = omega arith

pub add_cross : (a b c d : ℤ) → (a +ℤ b) +ℤ (c +ℤ d) ≡ (a +ℤ c) +ℤ (b +ℤ d)
add_cross a b c d =
    +ℤ_assoc a b (c +ℤ d)
    ∙ ap (λ (z : ℤ). a +ℤ z) (sym (+ℤ_assoc b c d) ∙ ap (λ (z : ℤ). z +ℤ d) (+ℤ_comm b c) ∙ +ℤ_assoc c b d)
    ∙ sym (+ℤ_assoc a c (b +ℤ d))
