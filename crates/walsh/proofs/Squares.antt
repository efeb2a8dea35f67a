-- Squares of whole numbers: a sum and a difference, the order of magnitudes, and products.
use mathlib.Core.Path.{◌≡◌, refl, ◌∙◌, ap}
use Prim.Native.Nat.{ℕ, zero, suc, ◌+◌, ◌-◌, ◌*◌, ◌<◌, ◌≤◌}
use native.Mathlib.Nat.{mul-add, add-mul, mul_comm, mul-le-mul}
use native.Mathlib.Decide.{dec_lt}
use native.Mathlib.Omega.{arith}
use lib.IntN.{ℤ, pos, negsuc, nat_abs, sub_ℕ, ◌+ℤ◌, ◌-ℤ◌, ◌*ℤ◌, +ℤ_comm, +ℤ_idr}
use Rattle.lists.proofs.Integers.{sub_cases}
use Rattle.walsh.specs.Energy.{square}

pub square_product : (x : ℤ) → x *ℤ x ≡ pos (square x)
unfolding square
square_product (pos n) = refl
square_product (negsuc n) = refl

pub square_within : (b : ℕ) (x : ℤ) → nat_abs x ≤ b → square x ≤ b * b
unfolding square
square_within b x h = mul-le-mul h h

pub square_less : (x y : ℤ) → square x < square y → nat_abs x < nat_abs y
unfolding square
square_less x y h = by (dec_lt (nat_abs x) (nat_abs y))
  where
    by : Dec (nat_abs x < nat_abs y) → nat_abs x < nat_abs y
    by (yes l) = l
    by (no n) = let g : nat_abs y ≤ nat_abs x = omega arith in absurd (omega (arith, mul-le-mul g g))

-- ---- a sum and a difference

binomial : (a b : ℕ) → (a + b) * (a + b) ≡ a * a + 2 * (a * b) + b * b
binomial a b = omega (arith, mul-add (a + b) a b, add-mul a b a, add-mul a b b, mul_comm b a)

-- of two numbers that are d apart
squares_apart : (a b d : ℕ) → a + d ≡ b → (a + b) * (a + b) + d * d ≡ 2 * (a * a + b * b)
squares_apart a b d e =
    omega (arith, binomial a b, binomial a d, mul-add a a d, ap (λ (n : ℕ). n * n) e, ap (λ (n : ℕ). a * n) e)

squares_between : (a b : ℕ) → (a + b) * (a + b) + square (sub_ℕ a b) ≡ 2 * (a * a + b * b)
unfolding square
squares_between a b =
    sub_cases (λ z. (a + b) * (a + b) + nat_abs z * nat_abs z ≡ 2 * (a * a + b * b)) a b
    (λ h. squares_apart a b (suc (b - suc a)) (omega arith))
    (λ h. ap (λ (n : ℕ). n * n + (a - b) * (a - b)) (omega arith) ∙ squares_apart b a (a - b) (omega arith) ∙ omega arith)

squares_sides : (x : ℤ) (n : ℕ) → square (x +ℤ pos (suc n)) + square (x +ℤ negsuc n) ≡ 2 * (square x + suc n * suc n)
unfolding square
squares_sides (pos a) n = squares_between a (suc n)
squares_sides (negsuc a) n =
    omega (arith, squares_between (suc n) (suc a), ap (λ (k : ℕ). k * k) (let e : suc (suc (a + n)) ≡ suc n + suc a = omega arith in e))

pub squares_pair : (x y : ℤ) → square (x +ℤ y) + square (y -ℤ x) ≡ 2 * (square x + square y)
unfolding square
squares_pair (pos zero) y = omega (arith, ap square (+ℤ_comm (pos 0) y ∙ +ℤ_idr y), ap square (+ℤ_idr y))
squares_pair (pos (suc n)) y = omega (arith, squares_sides y n, ap square (+ℤ_comm (pos (suc n)) y))
squares_pair (negsuc n) y = omega (arith, squares_sides y n, ap square (+ℤ_comm (negsuc n) y))
