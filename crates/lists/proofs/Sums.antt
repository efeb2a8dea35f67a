-- Sums over places: term by term, of constants, of neighbours, of fewer terms, taken round from any start; the magnitude of a sum.
use mathlib.Core.Path.{◌≡◌, refl, sym, ◌∙◌, ap, ap₂}
use Prim.Native.Nat.{ℕ, zero, suc, ◌+◌, ◌*◌, ◌<◌, ◌≤◌, ◌^◌, ◌%◌}
use native.Mathlib.Decide.{ℕ_discrete}
use native.Mathlib.Nat.{pow-suc, suc-mul, add-mod_left, mod-eq_of_lt}
use native.Mathlib.Numerals.{add-one}
use native.Mathlib.Omega.{arith}
use lib.IntN.{ℤ, pos, neg_ℤ, nat_abs, ◌+ℤ◌, ◌-ℤ◌, ◌*ℤ◌, neg_ℤ-+ℤ, +ℤ_assoc, zero-*ℤ, suc_ℤ-*ℤ}
use Rattle.lists.specs.Sums.{sum, total}
use Rattle.lists.proofs.Integers.{abs_add, abs_add_parity, add_cross}

pub sum_ext : (n : ℕ) (f g : ℕ → ℤ) → ((t : ℕ) → t < n → f t ≡ g t) → sum n f ≡ sum n g
unfolding sum
sum_ext zero f g h = refl
sum_ext (suc n) f g h = ap₂ (λ (x y : ℤ). x +ℤ y) (sum_ext n f g (λ t l. h t (omega arith))) (h n (omega arith))

pub sum_add : (n : ℕ) (f g : ℕ → ℤ) → sum n (λ t. f t +ℤ g t) ≡ sum n f +ℤ sum n g
unfolding sum
sum_add zero f g = refl
sum_add (suc n) f g = ap (λ (x : ℤ). x +ℤ (f n +ℤ g n)) (sum_add n f g) ∙ add_cross (sum n f) (sum n g) (f n) (g n)

pub sum_neg : (n : ℕ) (f : ℕ → ℤ) → sum n (λ t. neg_ℤ (f t)) ≡ neg_ℤ (sum n f)
unfolding sum
sum_neg zero f = refl
sum_neg (suc n) f = ap (λ (x : ℤ). x +ℤ neg_ℤ (f n)) (sum_neg n f) ∙ sym (neg_ℤ-+ℤ (sum n f) (f n))

pub sum_sub : (n : ℕ) (f g : ℕ → ℤ) → sum n (λ t. f t -ℤ g t) ≡ sum n f -ℤ sum n g
sum_sub n f g = sum_add n f (λ t. neg_ℤ (g t)) ∙ ap (λ (x : ℤ). sum n f +ℤ x) (sum_neg n g)

pub sum_const : (n : ℕ) (x : ℤ) → sum n (λ t. x) ≡ pos n *ℤ x
unfolding sum
sum_const zero x = sym (zero-*ℤ x)
sum_const (suc n) x = ap (λ (y : ℤ). y +ℤ x) (sum_const n x) ∙ sym (suc_ℤ-*ℤ (pos n) x)

sum_pairs : (n : ℕ) (f : ℕ → ℤ) → sum (n * 2) f ≡ sum n (λ t. f (2 * t) +ℤ f (2 * t + 1))
unfolding sum
sum_pairs zero f = refl
sum_pairs (suc n) f =
    ap (λ (k : ℕ). sum k f) (let e : suc n * 2 ≡ suc (suc (n * 2)) = omega arith in e)
    ∙ +ℤ_assoc (sum (n * 2) f) (f (n * 2)) (f (suc (n * 2)))
    ∙ ap₂ (λ (x y : ℤ). x +ℤ y) (sum_pairs n f) (ap₂ (λ (x y : ℕ). f x +ℤ f y) (omega arith) (omega arith))

-- by the lowest binary digit of the place
pub sum_halves : (k : ℕ) (f : ℕ → ℤ) → sum (2 ^ suc k) f ≡ sum (2 ^ k) (λ t. f (2 * t) +ℤ f (2 * t + 1))
sum_halves k f = ap (λ (n : ℕ). sum n f) (pow-suc 2 k) ∙ sum_pairs (2 ^ k) f

pub abs_sum : (n : ℕ) (f : ℕ → ℤ) → nat_abs (sum n f) ≤ total n (λ t. nat_abs (f t))
unfolding sum total
abs_sum zero f = omega arith
abs_sum (suc n) f = omega (arith, abs_add (sum n f) (f n), abs_sum n f)

pub abs_sum_parity : (n : ℕ) (f : ℕ → ℤ) → nat_abs (sum n f) % 2 ≡ total n (λ t. nat_abs (f t)) % 2
unfolding sum total
abs_sum_parity zero f = refl
abs_sum_parity (suc n) f = omega (arith, abs_add_parity (sum n f) (f n), abs_sum_parity n f)

pub total_ext : (n : ℕ) (f g : ℕ → ℕ) → ((t : ℕ) → t < n → f t ≡ g t) → total n f ≡ total n g
unfolding total
total_ext zero f g h = refl
total_ext (suc n) f g h = omega (arith, total_ext n f g (λ t l. h t (omega arith)), h n (omega arith))

-- ---- totals

-- a loop's turn
pub total_more : (n : ℕ) (f : ℕ → ℕ) → total n f + f n ≡ total (n + 1) f
unfolding total
total_more n f = rw add-one

pub total_within : (n b : ℕ) (f : ℕ → ℕ) → ((t : ℕ) → t < n → f t ≤ b) → total n f ≤ n * b
unfolding total
total_within zero b f h = omega arith
total_within (suc n) b f h = omega (arith, total_within n b f (λ t l. h t (omega arith)), h n (omega arith), suc-mul n b)

pub total_mono : (n : ℕ) (f g : ℕ → ℕ) → ((t : ℕ) → t < n → f t ≤ g t) → total n f ≤ total n g
unfolding total
total_mono zero f g h = omega arith
total_mono (suc n) f g h = omega (arith, total_mono n f g (λ t l. h t (omega arith)), h n (omega arith))

-- fewer terms sum to no more
pub total_fewer : (m n : ℕ) (f : ℕ → ℕ) → m ≤ n → total m f ≤ total n f
unfolding total
total_fewer m zero f h = let e : m ≡ 0 = omega arith in omega (arith, ap (λ (k : ℕ). total k f) e)
total_fewer m (suc n) f h = by (ℕ_discrete m (suc n)) (total_fewer m n f)
  where
    by : Dec (m ≡ suc n) → (m ≤ n → total m f ≤ total n f) → total m f ≤ total n f + f n
    by (yes e) below = omega (arith, ap (λ (k : ℕ). total k f) e)
    by (no ne) below = omega (arith, below (omega arith))

pub total_zero : (n : ℕ) (f : ℕ → ℕ) → ((t : ℕ) → t < n → f t ≡ 0) → total n f ≡ 0
unfolding total
total_zero zero f h = refl
total_zero (suc n) f h = omega (arith, total_zero n f (λ t l. h t (omega arith)), h n (omega arith))

-- the sum one place on loses its first term and gains the next
one_on : (n : ℕ) (f : ℕ → ℕ) → total n (λ q. f (suc q)) + f 0 ≡ total n f + f n
unfolding total
one_on zero f = refl
one_on (suc n) f = omega (arith, one_on n f)

-- a sum over all places, taken round from any start
pub total_turned : (b t : ℕ) (g : ℕ → ℕ) → total b (λ q. g ((q + t) % b)) ≡ total b g
total_turned b zero g =
    total_ext b (λ q. g ((q + 0) % b)) g (λ q h. ap g (ap (λ (n : ℕ). n % b) (omega arith) ∙ mod-eq_of_lt h))
total_turned b (suc t) g =
    total_ext b (λ q. g ((q + suc t) % b)) (λ q. g ((suc q + t) % b)) (λ q h. ap (λ (n : ℕ). g (n % b)) (omega arith))
    ∙ omega (arith, one_on b (λ q. g ((q + t) % b)), ap g (add-mod_left b t), ap (λ (n : ℕ). g (n % b)) (let e : 0 + t ≡ t = omega arith in e))
    ∙ total_turned b t g
