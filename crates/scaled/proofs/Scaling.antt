-- The f64 numbers k / 512: nothing else has their value (law `Exact`), and the f64 operations on them are exact (law `Steps`).
use mathlib.Core.Path.{◌≡◌, refl, sym, ap, ◌∙◌, subst}
use mathlib.Core.Bool.{false}
use Prim.Native.Nat.{ℕ, zero, suc, ◌+◌, ◌-◌, ◌*◌, ◌/◌, ◌^◌, ◌<◌, ◌≤◌}
use native.Mathlib.Decide.{dec_le}
use native.Mathlib.Nat.{mul_assoc, mul-one, mul-pos, le_of_lt, lt_of_lt_of_le}
use native.Mathlib.Omega.{arith}
use borrow.Author.Tests.{le-leb, lt-leb}
use lib.Count.{count_trailing_zeros}
use lib.Dec.{T, lit<, lit≤}
use lib.IntN.{ℤ, pos, negsuc}
use lib.Pow.{pow_pos, pow-lt, pow_mono, shl_lt}
use lib.Ieee.{Float, fin, binary64, low, minus, odd, fits, round, of_int, add, sub, mul, div}
use lib.Ieee.Back.{round_whole}
use lib.Ieee.Exact.{HasValue, odd_sign, round_exact}
use lib.Ieee.Fits.{round-fits, odd-fits}
use lib.Ieee.Scale.{round_same}
use Rattle.scaled.specs.Exact.{scaled, whole}
use Rattle.scaled.specs.Laws.{Exact, Steps}
use Rattle.scaled.proofs.OddParts.{one_value}
use Rattle.scaled.proofs.Rounding.{sum_rounded, difference_rounded, product_rounded, quotient_rounded}

-- ---- the format holds k / 2^9: it is k × 2^1065 of the smallest values, of which 2^1074 are 1

same_exponent : (t : ℕ) → minus (0 + t) 9 ≡ minus (1065 + t) 1074
same_exponent t = by (dec_le 9 t)
  where
    by : Dec (9 ≤ t) → minus (0 + t) 9 ≡ minus (1065 + t) 1074
    by (yes l) =
        let less : 0 + t - 9 ≡ 1065 + t - 1074 = omega arith in
        rw (le-leb 9 (0 + t) (omega arith), le-leb 1074 (1065 + t) (omega arith)) (ap pos less)
    by (no l) =
        let less : 9 - suc (0 + t) ≡ 1074 - suc (1065 + t) = omega arith in
        rw (lt-leb 9 (0 + t) (omega arith), lt-leb 1074 (1065 + t) (omega arith)) (ap negsuc less)

in_smallest : (k : ℕ) → scaled k ≡ odd 53 false k 1065 1074
unfolding scaled odd
in_smallest zero = refl
in_smallest (suc k) = ap (λ (e : ℤ). fin false (suc k / 2 ^ count_trailing_zeros 53 (suc k)) e) (same_exponent (count_trailing_zeros 53 (suc k)))

in_range : (k : ℕ) → k < 2 ^ 53 → k * 2 ^ 1065 < 2 ^ (low binary64 + 1024)
in_range k h = lt_of_lt_of_le (shl_lt 53 1065 h) (pow_mono {i = 53 + 1065} {j = low binary64 + 1024} (lit≤ tt))

scaled_fits : (k : ℕ) → k < 2 ^ 53 → T (fits binary64 (scaled k))
scaled_fits k h = subst (λ (x : Float). T (fits binary64 x)) (sym (in_smallest k)) (odd-fits binary64 53 false k 1065 h (le_of_lt h) (in_range k h))

-- ---- its value, and what has that value

pub scaled_value : (k : ℕ) → HasValue (scaled k) false k 512
unfolding scaled
scaled_value k = subst (λ (z : ℕ). HasValue (scaled k) false z 512) (mul-one k) (odd_sign 53 false k 0 9)

only_scaled : (k : ℕ) (x : Float) → k < 2 ^ 53 → T (fits binary64 x) → HasValue x false k 512 → x ≡ scaled k
only_scaled k x h p v = one_value binary64 x (scaled k) false k 512 (lit< tt) p (scaled_fits k h) v (scaled_value k)

pub exact_law : Exact
exact_law = record { held = scaled_fits; value = scaled_value; only = only_scaled }

pub rounded : (k : ℕ) → k < 2 ^ 53 → round binary64 false k 512 ≡ scaled k
rounded k h =
    only_scaled k (round binary64 false k 512) h (round-fits binary64 false k 512)
    (round_exact binary64 false k 512 k 1065 (lit< tt) h (in_range k h) (sym (mul_assoc k (2 ^ 1065) 512)))

-- ---- the operations

whole_value : (n : ℕ) → n < 2 ^ 53 → HasValue (whole n) false n 1
unfolding of_int
whole_value n h = round_whole binary64 false n (le_of_lt h)

pub cast_exact : (n : ℕ) → 512 * n < 2 ^ 53 → whole n ≡ scaled (512 * n)
unfolding of_int
cast_exact n h = round_same binary64 false n 1 (512 * n) 512 (lit< tt) (lit< tt) (omega arith) ∙ rounded (512 * n) h

pub sum_exact : (i j : ℕ) → i + j < 2 ^ 53 → add binary64 (scaled i) (scaled j) ≡ scaled (i + j)
sum_exact i j h = sum_rounded binary64 (scaled i) (scaled j) i j 512 (lit< tt) (scaled_value i) (scaled_value j) ∙ rounded (i + j) h

pub difference_exact : (i j : ℕ) → j ≤ i → i < 2 ^ 53 → sub binary64 (scaled i) (scaled j) ≡ scaled (i - j)
difference_exact i j l h =
    difference_rounded binary64 (scaled i) (scaled j) i j 512 (lit< tt) (scaled_value i) (scaled_value j) l ∙ rounded (i - j) (omega arith)

pub product_exact : (i n : ℕ) → n < 2 ^ 53 → i * n < 2 ^ 53 → mul binary64 (scaled i) (whole n) ≡ scaled (i * n)
product_exact i n l h =
    product_rounded binary64 (scaled i) (whole n) i n 512 1 (lit< tt) (lit< tt) (scaled_value i) (whole_value n l) ∙ rounded (i * n) h

pub quotient_exact : (i e : ℕ) → e < 53 → i < 2 ^ 53 → div binary64 (scaled (i * 2 ^ e)) (whole (2 ^ e)) ≡ scaled i
quotient_exact i e l h =
    quotient_rounded binary64 (scaled (i * 2 ^ e)) (whole (2 ^ e)) (i * 2 ^ e) (2 ^ e) 512 1 (lit< tt) (lit< tt)
    (scaled_value (i * 2 ^ e)) (whole_value (2 ^ e) (pow-lt l)) (pow_pos e)
    ∙ round_same binary64 false (i * 2 ^ e * 1) (512 * 2 ^ e) i 512 (mul-pos (lit< tt) (pow_pos e)) (lit< tt) (omega (arith, mul_assoc i (2 ^ e) 512))
    ∙ rounded i h

pub steps_law : Steps
steps_law = record {
  cast = cast_exact;
  sum = sum_exact;
  difference = difference_exact;
  product = product_exact;
  quotient = quotient_exact;
}
