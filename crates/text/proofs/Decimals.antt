-- A number in decimal: its last digit after those of its tenth, and how many there are; the length with a sign, and of a field.
use mathlib.Core.Path.{◌≡◌, sym, ◌∙◌, ap}
use mathlib.Core.List.{List, [], ◌∷◌, ◌++◌}
use Prim.Native.Nat.{ℕ, zero, suc, ◌+◌, ◌*◌, ◌<◌, ◌≤◌, ◌/◌, ◌%◌, ◌^◌}
use native.Mathlib.Decide.{dec_lt}
use native.Mathlib.Nat.{pow-suc, one-le-pow}
use native.Mathlib.Omega.{arith}
use borrow.Author.Tests.{lt-ltb, le-ltb}
use lib.IntN.{ℤ, pos, negsuc, nat_abs}
use lib.ListN.{length, length-append}
use Rattle.text.specs.Decimal.{digits, decimal, signed_decimal, field, signed_field}

digits_small : (count n : ℕ) → n < 10 → digits (suc count) n ≡ (48 + n) ∷ []
unfolding digits
digits_small count n h = rw (lt-ltb n 10 h)

digits_more : (count n : ℕ) → 10 ≤ n → digits (suc count) n ≡ digits count (n / 10) ++ ((48 + n % 10) ∷ [])
unfolding digits
digits_more count n h = rw (le-ltb n 10 h)

-- any count above the number gives the same digits
digits_same : (f g n : ℕ) → n < f → n < g → digits f n ≡ digits g n
digits_same zero g n h k = absurd (omega arith)
digits_same (suc f) zero n h k = absurd (omega arith)
digits_same (suc f) (suc g) n h k = by (digits_same f g (n / 10)) (dec_lt n 10)
  where
    by : (n / 10 < f → n / 10 < g → digits f (n / 10) ≡ digits g (n / 10)) → Dec (n < 10) → digits (suc f) n ≡ digits (suc g) n
    by r (yes l) = digits_small f n l ∙ sym (digits_small g n l)
    by r (no l) =
        digits_more f n (omega arith)
        ∙ ap (λ (x : List ℕ). x ++ ((48 + n % 10) ∷ [])) (r (omega arith) (omega arith))
        ∙ sym (digits_more g n (omega arith))

pub decimal_small : (n : ℕ) → n < 10 → decimal n ≡ (48 + n) ∷ []
unfolding decimal
decimal_small n h = digits_small n n h

pub decimal_more : (n : ℕ) → 10 ≤ n → decimal n ≡ decimal (n / 10) ++ ((48 + n % 10) ∷ [])
unfolding decimal
decimal_more n h =
    digits_more n n h ∙ ap (λ (x : List ℕ). x ++ ((48 + n % 10) ∷ [])) (digits_same n (suc (n / 10)) (n / 10) (omega arith) (omega arith))

pub decimal_more_length : (n : ℕ) → 10 ≤ n → length (decimal n) ≡ length (decimal (n / 10)) + 1
decimal_more_length n h = ap length (decimal_more n h) ∙ length-append (decimal (n / 10)) ((48 + n % 10) ∷ [])

-- a number below 10 ^ (k + 1) has at most k + 1 digits
decimal_length : (k n : ℕ) → n < 10 ^ suc k → length (decimal n) ≤ suc k
decimal_length zero n h = rw (decimal_small n (omega arith)) (omega arith)
decimal_length (suc k) n h = by (decimal_length k (n / 10)) (dec_lt n 10)
  where
    by : (n / 10 < 10 ^ suc k → length (decimal (n / 10)) ≤ suc k) → Dec (n < 10) → length (decimal n) ≤ suc (suc k)
    by r (yes l) = omega (arith, ap length (decimal_small n l))
    by r (no l) = omega (arith, decimal_more_length n (omega arith), r (omega (arith, pow-suc 10 (suc k))))

pub decimal_some : (n : ℕ) → 1 ≤ length (decimal n)
decimal_some n = by (dec_lt n 10)
  where
    by : Dec (n < 10) → 1 ≤ length (decimal n)
    by (yes l) = omega (arith, ap length (decimal_small n l))
    by (no l) = omega (arith, decimal_more_length n (omega arith))

-- and a number from 10 ^ k up has no fewer than k + 1
decimal_length_from : (k n : ℕ) → 10 ^ k ≤ n → suc k ≤ length (decimal n)
decimal_length_from zero n h = decimal_some n
decimal_length_from (suc k) n h =
    let tens : 10 ≤ n = omega (arith, pow-suc 10 k, one-le-pow k 10 (omega arith)) in
    omega (arith, decimal_more_length n tens, decimal_length_from k (n / 10) (omega (arith, pow-suc 10 k)))

-- so its logarithm tells their count
pub decimal_length_log : (k n : ℕ) → 10 ^ k ≤ n → n < 10 * 10 ^ k → length (decimal n) ≡ k + 1
decimal_length_log k n low high = omega (arith, decimal_length_from k n low, decimal_length k n (omega (arith, pow-suc 10 k)))

pub decimal_short : (n : ℕ) → n < 2 ^ 64 → length (decimal n) ≤ 20
decimal_short n h = decimal_length 19 n (omega arith)

pub decimal_short_32 : (n : ℕ) → n < 2 ^ 32 → length (decimal n) ≤ 10
decimal_short_32 n h = decimal_length 9 n (omega arith)

pub signed_short : (z : ℤ) → nat_abs z < 2 ^ 32 → length (signed_decimal z) ≤ 11
unfolding signed_decimal
signed_short (pos n) h = omega (arith, decimal_short_32 n h)
signed_short (negsuc n) h = omega (arith, decimal_short_32 (suc n) h)

pub field_length : (n end : ℕ) → n < 2 ^ 64 → length (field n end) ≤ 21
unfolding field
field_length n end h = omega (arith, length-append (decimal n) (end ∷ []), decimal_short n h)

pub field_length_32 : (n end : ℕ) → n < 2 ^ 32 → length (field n end) ≤ 11
unfolding field
field_length_32 n end h = omega (arith, length-append (decimal n) (end ∷ []), decimal_short_32 n h)

pub signed_field_length : (z : ℤ) (end : ℕ) → nat_abs z < 2 ^ 32 → length (signed_field z end) ≤ 12
unfolding signed_field
signed_field_length z end h = omega (arith, length-append (signed_decimal z) (end ∷ []), signed_short z h)

pub field_some : (n end : ℕ) → 1 ≤ length (field n end)
unfolding field
field_some n end = omega (arith, length-append (decimal n) (end ∷ []))
