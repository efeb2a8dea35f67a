-- A number by its binary digits: the sum of the values of its ones.
use mathlib.Core.Path.{◌≡◌, sym, ◌∙◌, ap}
use mathlib.Core.Bool.{Bool, true, false, cond}
use mathlib.Core.Logic.{⊎_elim}
use Prim.Native.Nat.{ℕ, zero, suc, ◌+◌, ◌*◌, ◌-◌, ◌<◌, ◌^◌, ◌/◌, ◌%◌}
use native.Mathlib.Decide.{ℕ_discrete}
use native.Mathlib.Nat.{pow-suc, add-mul-div_right, div-eq_of_lt, mod-eq_of_lt, mod-one}
use native.Mathlib.Numerals.{one-add}
use native.Mathlib.Omega.{arith}
use lib.Dec.{eqb}
use lib.Pow.{pow_pos, pow-add, mod-pow-add}
use Rattle.lists.specs.Sums.{total}
use Rattle.walsh.specs.Words.{odd}
use Rattle.walsh.proofs.Signs.{lowest_digit, odd_zero, odd_one}
use Rattle.chain.specs.Chain.{bit}

-- what digit i adds to the number
abbrev pub value_of_digit : (ℕ → Bool) → ℕ → ℕ
value_of_digit digits i = cond (digits i) (2 ^ i) 0

-- the number of the digits below n
abbrev pub number_of : (ℕ → Bool) → ℕ → ℕ
number_of digits n = total n (value_of_digit digits)

-- ---- one digit more, above a number x

top_below : (x n : ℕ) (d : Bool) → x < 2 ^ n → x + cond d (2 ^ n) 0 < 2 ^ suc n
top_below x n true h = omega (arith, pow-suc 2 n)
top_below x n false h = omega (arith, pow-suc 2 n)

-- it is the bit at its own place
top_own : (x n : ℕ) (d : Bool) → x < 2 ^ n → bit (x + cond d (2 ^ n) 0) n ≡ d
top_own x n true h =
    ap odd (ap (λ (y : ℕ). (x + y) / 2 ^ n) (let e : 2 ^ n ≡ 1 * 2 ^ n = omega arith in e)
    ∙ add-mul-div_right x 1 (pow_pos n) ∙ ap (λ (y : ℕ). y + 1) (div-eq_of_lt h))
top_own x n false h =
    ap odd (ap (λ (y : ℕ). y / 2 ^ n) (let e : x + 0 ≡ x = omega arith in e) ∙ div-eq_of_lt h)

-- and changes no bit below it
above_none : (x k i : ℕ) → bit (x + 2 ^ (suc k + i)) i ≡ bit x i
above_none x k i =
    ap (λ (y : ℕ). bit (x + y) i) (pow-add 2 (suc k) i)
    ∙ ap odd (add-mul-div_right x (2 ^ suc k) (pow_pos i))
    ∙ ap (λ (y : ℕ). eqb y 1) (let e : (x / 2 ^ i + 2 ^ suc k) % 2 ≡ x / 2 ^ i % 2 = omega (arith, pow-suc 2 k) in e)

top_other : (x n : ℕ) (d : Bool) (i : ℕ) → i < n → bit (x + cond d (2 ^ n) 0) i ≡ bit x i
top_other x n true i h =
    ap (λ (m : ℕ). bit (x + 2 ^ m) i) (let e : n ≡ suc (n - suc i) + i = omega arith in e)
    ∙ above_none x (n - suc i) i
top_other x n false i h = ap (λ (y : ℕ). bit y i) (let e : x + 0 ≡ x = omega arith in e)

-- ---- the number of any digits

module _ (digits : ℕ → Bool) where
  pub number_below : (n : ℕ) → number_of digits n < 2 ^ n
  unfolding total
  number_below zero = omega arith
  number_below (suc n) = top_below (number_of digits n) n (digits n) (number_below n)

  pub number_bit : (n i : ℕ) → i < n → bit (number_of digits n) i ≡ digits i
  unfolding total
  number_bit zero i h = absurd (omega arith)
  number_bit (suc n) i h = by (ℕ_discrete i n) (number_bit n i)
    where
      by : Dec (i ≡ n) → (i < n → bit (number_of digits n) i ≡ digits i) → bit (number_of digits n + value_of_digit digits n) i ≡ digits i
      by (yes e) below = rw e (top_own (number_of digits n) n (digits n) (number_below n))
      by (no ne) below = top_other (number_of digits n) n (digits n) i (omega arith) ∙ below (omega arith)

-- ---- any number is that of its digits

digit_value : (m w : ℕ) → m % 2 * w ≡ cond (odd m) w 0
digit_value m w =
    ⊎_elim
    (λ e. ap (λ (d : ℕ). d * w) e ∙ omega arith ∙ ap (λ (d : Bool). cond d w 0) (sym (odd_zero m e)))
    (λ e. ap (λ (d : ℕ). d * w) e ∙ omega arith ∙ ap (λ (d : Bool). cond d w 0) (sym (odd_one m e)))
    (lowest_digit m)

low_digits : (s n : ℕ) → s % 2 ^ n ≡ number_of (bit s) n
unfolding total
low_digits s zero = mod-one s
low_digits s (suc n) =
    ap (λ (k : ℕ). s % 2 ^ k) (sym (one-add n)) ∙ omega (arith, mod-pow-add s 1 n, low_digits s n, digit_value (s / 2 ^ n) (2 ^ n))

pub number_of_bits : (s n : ℕ) → s < 2 ^ n → s ≡ number_of (bit s) n
number_of_bits s n h = sym (mod-eq_of_lt h) ∙ low_digits s n
