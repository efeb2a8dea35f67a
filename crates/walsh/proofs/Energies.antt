-- The sum of squares through the six butterflies, each of which doubles it; and a turn of the loop that adds it up.
use mathlib.Core.Path.{◌≡◌, refl, sym, ◌∙◌, ap, ap₂}
use Prim.Native.Nat.{ℕ, zero, suc, ◌+◌, ◌*◌, ◌<◌, ◌≤◌, ◌^◌}
use native.Mathlib.Nat.{pow-suc, mul_assoc, mul_comm}
use native.Mathlib.Omega.{arith}
use lib.IntN.{ℤ, pos, nat_abs, ◌*ℤ◌}
use mir.Syntax.{w32}
use mir.Val.{SFits}
use mir.Facts.{to_z-of_z}
use Rattle.lists.specs.Sums.{total}
use Rattle.lists.proofs.Sums.{total_ext, total_more, total_within, total_fewer}
use Rattle.walsh.specs.Words.{corr}
use Rattle.walsh.specs.Transform.{butterfly, butterflies}
use Rattle.walsh.specs.Energy.{square, energy}
use Rattle.walsh.specs.Laws.{Parseval}
use Rattle.walsh.proofs.Butterflies.{butterfly_even, butterfly_odd, transform}
use Rattle.walsh.proofs.Signed.{corr_ext}
use Rattle.walsh.proofs.Locals.{kept, reads}
use Rattle.walsh.proofs.Squares.{square_product, square_within, square_less, squares_pair}

-- ---- sums reordered

total_pairs : (n : ℕ) (f : ℕ → ℕ) → total (n * 2) f ≡ total n (λ t. f (2 * t) + f (2 * t + 1))
unfolding total
total_pairs zero f = refl
total_pairs (suc n) f =
    ap (λ (k : ℕ). total k f) (let e : suc n * 2 ≡ suc (suc (n * 2)) = omega arith in e)
    ∙ omega (arith, total_pairs n f, ap f (let e : n * 2 ≡ 2 * n = omega arith in e), ap f (let e : suc (n * 2) ≡ 2 * n + 1 = omega arith in e))

total_after : (m n : ℕ) (f : ℕ → ℕ) → total (n + m) f ≡ total m f + total n (λ t. f (t + m))
unfolding total
total_after m zero f = omega (arith, ap (λ (k : ℕ). total k f) (let e : 0 + m ≡ m = omega arith in e))
total_after m (suc n) f =
    ap (λ (k : ℕ). total k f) (let e : suc n + m ≡ suc (n + m) = omega arith in e) ∙ omega (arith, total_after m n f)

-- twice the sum of two sums
total_doubled : (n : ℕ) (f g : ℕ → ℕ) → total n (λ t. 2 * (f t + g t)) ≡ 2 * (total n f + total n g)
unfolding total
total_doubled zero f g = refl
total_doubled (suc n) f g = omega (arith, total_doubled n f g)

-- ---- the six butterflies

butterfly_energy : (x : ℕ → ℤ) → energy (butterfly x) ≡ 2 * energy x
unfolding energy
butterfly_energy x =
    total_pairs 32 (λ i. square (butterfly x i))
    ∙ total_ext 32 _ _ (λ j l. ap₂ (λ (a b : ℤ). square a + square b) (butterfly_even x j) (butterfly_odd x j) ∙ squares_pair (x j) (x (j + 32)))
    ∙ total_doubled 32 (λ j. square (x j)) (λ j. square (x (j + 32)))
    ∙ ap (λ (n : ℕ). 2 * n) (sym (total_after 32 32 (λ i. square (x i))))

butterflies_energy : (k : ℕ) (x : ℕ → ℤ) → energy (butterflies k x) ≡ 2 ^ k * energy x
unfolding butterflies
butterflies_energy zero x = omega arith
butterflies_energy (suc k) x =
    butterfly_energy (butterflies k x)
    ∙ ap (λ (n : ℕ). 2 * n) (butterflies_energy k x)
    ∙ sym (mul_assoc 2 (2 ^ k) (energy x))
    ∙ ap (λ (n : ℕ). n * energy x) (mul_comm 2 (2 ^ k) ∙ sym (pow-suc 2 k))

pub energy_ext : (x y : ℕ → ℤ) → ((i : ℕ) → i < 64 → x i ≡ y i) → energy x ≡ energy y
unfolding energy
energy_ext x y e = total_ext 64 _ _ (λ i l. ap square (e i l))

pub counts_energy : (f g : ℕ → ℤ) → ((t : ℕ) → t < 64 → f t ≡ g t) → energy (corr f) ≡ energy (corr g)
counts_energy f g e = energy_ext (corr f) (corr g) (λ c l. corr_ext f g e c)

pub parseval : Parseval
parseval = record { sum = λ h. energy_ext (corr h) (butterflies 6 h) (λ c l. sym (transform.six_steps h c l)) ∙ butterflies_energy 6 h }

pub energy_within : (b : ℕ) (h : ℕ → ℤ) → ((t : ℕ) → nat_abs (h t) ≤ b) → energy (corr h) ≤ 64 * (64 * (b * b))
unfolding energy
energy_within b h f = omega (arith, parseval.sum h, total_within 64 (b * b) (λ t. square (h t)) (λ t l. square_within b (h t) (f t)))

-- ---- a loop that adds the squares up, at place i

-- the product of the correlation there fits, is its square, and goes to the sum
pub record Next (x : ℕ → ℤ) (i : ℕ) : Type 0 where
  pub fits : SFits w32 (kept (x i) *ℤ kept (x i))
  pub value : kept (kept (x i) *ℤ kept (x i)) ≡ pos (square (x i))
  pub more : total i (λ c. square (x c)) + square (x i) ≡ total (i + 1) (λ c. square (x c))
  pub small : total i (λ c. square (x c)) + square (x i) ≤ 67108864

module _ (x : ℕ → ℤ) (i : ℕ) (l : i < 64) (few : energy x ≤ 67108864) where
  sum_small : total i (λ c. square (x c)) + square (x i) ≤ 67108864
  unfolding energy
  sum_small = omega (arith, total_more i (λ c. square (x c)), total_fewer (i + 1) 64 (λ c. square (x c)) (omega arith))

  correlation_small : nat_abs (x i) ≤ 8192
  unfolding square
  correlation_small = let below : nat_abs (x i) < 8193 = square_less (x i) (pos 8193) (omega (arith, sum_small)) in omega arith

  product : kept (x i) *ℤ kept (x i) ≡ pos (square (x i))
  product = rw (reads (x i) correlation_small) (square_product (x i))

  product_fits : SFits w32 (kept (x i) *ℤ kept (x i))
  product_fits = rw product (record { sfits = omega (arith, sum_small) })

  pub next : Next x i
  next = record { fits = product_fits; value = to_z-of_z product_fits ∙ product; more = total_more i (λ c. square (x c)); small = sum_small }
