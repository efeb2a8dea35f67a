-- The distance of an f64 from the middle of a stretch of 2h / 512, rounded once (law `Distance`). At or above the middle the difference is
-- exact, so that it stays below the half; under the middle it may be rounded up to it.
use mathlib.Core.Path.{◌≡◌, refl, sym, ap, ◌∙◌}
use mathlib.Core.Bool.{Bool, true, false, true≢false, ◌&&◌}
use Prim.Native.Nat.{ℕ, zero, suc, ◌+◌, ◌-◌, ◌*◌, ◌%◌, ◌^◌, ◌<◌, ◌≤◌}
use native.Mathlib.Nat.{zero-mul, mul-one, mul_comm, mul_assoc, mul_right_comm, mul-pos, add-mul, lt_of_mul-lt-mul_right, not-le_of_lt, lt_of_lt_of_le, le_refl}
use native.Mathlib.Decide.{dec_le}
use native.Mathlib.Omega.{arith}
use borrow.Author.Tests.{leb-true, leb-false, eqb-true}
use lib.Dec.{T, leb, ltb, eqb, lit<, lit≤, ltb→lt, leb→le}
use lib.IntN.{ℤ, pos, negsuc}
use lib.Pow.{pow-add, pow-lt, pow_mono, shl_lt}
use lib.Ieee.{Float, nan, inf, fin, binary64, emax, low, up, down, fits, round, neg, add, sub, sum, lt, le}
use lib.Ieee.Exact.{HasValue, round_exact}
use lib.Ieee.Fits.{and_l, and_r, down_pos}
use lib.Ieee.Order.{round_mono, le_of_values}
use lib.Ieee.Scale.{round_same}
use Rattle.scaled.specs.Exact.{scaled}
use Rattle.scaled.proofs.OddParts.{zero_fits}
use Rattle.scaled.proofs.Rounding.{of_value, same_value, sub_mul, difference_rounded, difference_turned}
use Rattle.scaled.proofs.Scaling.{scaled_value, rounded}
use Rattle.scaled_order.specs.Order.{at_least}
use Rattle.scaled_order.specs.Laws.{Distance}
use Rattle.scaled_order.proofs.Comparing.{both}
use Rattle.scaled_order.proofs.Signs.{plus, value_plus, round_sign, turned, value_turned, values_less}

-- ---- an f64 has at most 53 digits, the last of them 2^-1074 or more

fits_range : (s : Bool) (m : ℕ) (e : ℤ) → T (fits binary64 (fin s m e)) → (m < 2 ^ 53) × (down e ≤ 2 ^ 1074)
unfolding fits
fits_range s zero e t = (lit< tt, rw (zero_fits binary64 s e t) (lit≤ tt))
fits_range s (suc m) e t =
    let odd = eqb (suc m % 2) 1 in
    let small = ltb (suc m) (2 ^ 53) in
    let fine = leb (down e) (2 ^ 1074) in
    let below = ltb (suc m * up e) (2 ^ 1024 * down e) in
    let most = and_l (odd && small && fine) below t in
    (ltb→lt (suc m) (2 ^ 53) (and_r odd small (and_l (odd && small) fine most)), leb→le (down e) (2 ^ 1074) (and_r (odd && small) fine most))

-- ---- x − k / 512, for an x at or above k / 512 by less than h / 512, has no more digits than x: in units of 2^-1074 it is digits × 2^place

record Held (num den : ℕ) : Type 0 where
  pub digits : ℕ
  pub place : ℕ
  pub few : digits < 2 ^ 53
  pub near : place ≤ 1074
  pub exact : num * 2 ^ 1074 ≡ digits * 2 ^ place * den

module _ (m k h : ℕ) (M : m < 2 ^ 53) (H : h < 2 ^ 53) where
  -- x is a whole number of 1/512
  coarse : (i : ℕ) → i ≤ 9 → m * 512 < (k + h) * 2 ^ i → Held (m * 512 - k * 2 ^ i) (2 ^ i * 512)
  coarse i l b =
      let t = 9 - i in
      let nine : t + i ≡ 9 = omega arith in
      let powers : 2 ^ t * 2 ^ i ≡ 512 = sym (pow-add 2 t i) ∙ ap (λ (z : ℕ). 2 ^ z) nine in
      let split : m * 2 ^ t * 2 ^ i ≡ m * 512 = mul_assoc m (2 ^ t) (2 ^ i) ∙ ap (λ (z : ℕ). m * z) powers in
      let less : m * 2 ^ t < k + h = lt_of_mul-lt-mul_right (2 ^ i) (rw split b) in
      let q = m * 2 ^ t - k in
      let num : m * 512 - k * 2 ^ i ≡ q * 2 ^ i = ap (λ (z : ℕ). z - k * 2 ^ i) (sym split) ∙ sym (sub_mul (m * 2 ^ t) k (2 ^ i)) in
      let units : 2 ^ i * 2 ^ 1074 ≡ 2 ^ 1065 * (2 ^ i * 512) =
      mul_comm (2 ^ i) (2 ^ 1074) ∙ mul_right_comm (2 ^ 1065) 512 (2 ^ i) ∙ mul_assoc (2 ^ 1065) (2 ^ i) 512 in
      record {
        digits = q;
        place = 1065;
        few = omega arith;
        near = lit≤ tt;
        exact = rw num (mul_assoc q (2 ^ i) (2 ^ 1074) ∙ ap (λ (z : ℕ). q * z) units ∙ sym (mul_assoc q (2 ^ 1065) (2 ^ i * 512)));
      }

  -- x has digits below 1/512
  fine : (i : ℕ) → 9 ≤ i → i ≤ 1074 → Held (m * 512 - k * 2 ^ i) (2 ^ i * 512)
  fine i l g =
      let u = i - 9 in
      let nine : u + 9 ≡ i = omega arith in
      let powers : 2 ^ i ≡ 2 ^ u * 512 = ap (λ (z : ℕ). 2 ^ z) (sym nine) ∙ pow-add 2 u 9 in
      let q = m - k * 2 ^ u in
      let tone : k * 2 ^ i ≡ k * 2 ^ u * 512 = ap (λ (z : ℕ). k * z) powers ∙ sym (mul_assoc k (2 ^ u) 512) in
      let num : m * 512 - k * 2 ^ i ≡ q * 512 = ap (λ (z : ℕ). m * 512 - z) tone ∙ sym (sub_mul m (k * 2 ^ u) 512) in
      let j = 1074 - i in
      let all : j + i ≡ 1074 = omega arith in
      let whole : 2 ^ j * 2 ^ i ≡ 2 ^ 1074 = sym (pow-add 2 j i) ∙ ap (λ (z : ℕ). 2 ^ z) all in
      let units : q * 2 ^ 1074 ≡ q * 2 ^ j * 2 ^ i = ap (λ (z : ℕ). q * z) (sym whole) ∙ sym (mul_assoc q (2 ^ j) (2 ^ i)) in
      record {
        digits = q;
        place = j;
        few = omega arith;
        near = omega arith;
        exact = rw num (mul_right_comm q 512 (2 ^ 1074) ∙ ap (λ (z : ℕ). z * 512) units ∙ mul_assoc (q * 2 ^ j) (2 ^ i) 512);
      }

pow_le : (i j : ℕ) → 2 ^ i ≤ 2 ^ j → i ≤ j
pow_le i j l = by (dec_le i j)
  where
    by : Dec (i ≤ j) → i ≤ j
    by (yes h) = h
    by (no h) = absurd (not-le_of_lt (pow-lt {i = j} {j = i} (omega arith)) l)

held : (m : ℕ) (e : ℤ) (k h : ℕ) → T (fits binary64 (fin false m e)) → h < 2 ^ 53 → m * up e * 512 < (k + h) * down e
    → Held (m * up e * 512 - k * down e) (down e * 512)
held m (pos i) k h t H l =
    let q = m * 2 ^ i * 512 - k * 1 in
    record { digits = q; place = 1065; few = omega arith; near = lit≤ tt; exact = sym (mul_assoc q (2 ^ 1065) 512) }
held m (negsuc i) k h t H l = by (fits_range false m (negsuc i) t) (dec_le (suc i) 9)
  where
    by : (m < 2 ^ 53) × (2 ^ suc i ≤ 2 ^ 1074) → Dec (suc i ≤ 9) → Held (m * 1 * 512 - k * 2 ^ suc i) (2 ^ suc i * 512)
    by r (yes s) = rw (mul-one m) (coarse m k h r.0 H (suc i) s (rw (mul-one m) at l))
    by r (no s) = rw (mul-one m) (fine m k h r.0 H (suc i) (omega arith) (pow_le (suc i) 1074 r.1))

-- ---- the rounded difference

record Near (h : ℕ) (off : Float) : Type 0 where
  pub from : le (neg (scaled h)) off ≡ true
  pub below : lt off (scaled h) ≡ true

module _ (h : ℕ) (some : 0 < h) (H : h < 2 ^ 53) where
  half_plus : plus (scaled h) ≡ true
  half_plus = value_plus (scaled h) h 512 (scaled_value h)

  beside_half : (p : Float) → plus p ≡ true → (lt (neg p) (scaled h) ≡ true) × (le (neg (scaled h)) p ≡ true)
  beside_half = value_turned (scaled h) h 512 some (scaled_value h)

  turned_near : (p : Float) → plus p ≡ true → T (le p (scaled h)) → Near h (neg p)
  turned_near p P l = record { from = turned p (scaled h) P half_plus l; below = (beside_half p P).0 }

  module _ (m : ℕ) (e : ℤ) (k : ℕ) where
    abbrev den : ℕ
    den = down e * 512

    den_pos : 0 < den
    den_pos = mul-pos (down_pos e) (lit< tt)

    own_value : HasValue (fin false m e) false (m * up e * 512) den
    own_value = (refl, sym (mul_assoc (m * up e) (down e) 512) ∙ mul_right_comm (m * up e) (down e) 512)

    middle_value : HasValue (scaled k) false (k * down e) den
    middle_value = same_value (scaled k) k 512 (k * down e) den (lit< tt) (mul_assoc k (down e) 512) (scaled_value k)

    above_middle : T (fits binary64 (fin false m e)) → k * down e ≤ m * up e * 512 → m * up e * 512 < (k + h) * down e
        → Near h (sub binary64 (fin false m e) (scaled k))
    above_middle t l g =
        let num = m * up e * 512 - k * down e in
        let off = round binary64 false num den in
        let q = held m e k h t H g in
        let room : q.digits * 2 ^ q.place < 2 ^ (low binary64 + suc (emax binary64)) =
        lt_of_lt_of_le (shl_lt 53 q.place q.few) (pow_mono {i = 53 + q.place} {j = low binary64 + suc (emax binary64)} (omega (arith, q.near))) in
        let value : HasValue off false num den = round_exact binary64 false num den q.digits q.place den_pos q.few room q.exact in
        let less : num * 512 < h * den = omega (arith, add-mul k h (down e), mul_assoc h (down e) 512) in
        rw (difference_rounded binary64 (fin false m e) (scaled k) (m * up e * 512) (k * down e) den den_pos own_value middle_value l) (record {
          from = (beside_half off (value_plus off num den value)).1;
          below = values_less off (scaled h) num den h 512 value (scaled_value h) less;
        })

    under_middle : (s : ℕ) → s + h ≡ k → s * down e ≤ m * up e * 512 → m * up e * 512 < k * down e → Near h (sub binary64 (fin false m e) (scaled k))
    under_middle s w l g =
        let num = k * down e - m * up e * 512 in
        let size = round binary64 false num den in
        let sign = round_sign binary64 num den in
        let sum : k * down e ≡ s * down e + h * down e = ap (λ (z : ℕ). z * down e) (sym w) ∙ add-mul s h (down e) in
        let most : num * 512 ≤ h * den = omega (arith, mul_assoc h (down e) 512) in
        let order : T (le size (scaled h)) = rw (rounded h H) at (round_mono binary64 num den h 512 den_pos (lit< tt) most) in
        rw (difference_turned binary64 (fin false m e) (scaled k) (m * up e * 512) (k * down e) den den_pos own_value middle_value g, sign.0)
        (turned_near size sign.1 order)

  -- −0.0 in a stretch from 0
  minus_zero_less : (e : ℤ) → sub binary64 (fin true 0 e) (scaled h) ≡ neg (scaled h)
  unfolding sub add neg sum
  minus_zero_less e = of_value (λ (y : Float). sub binary64 (fin true 0 e) y ≡ neg (scaled h)) (scaled h) h 512 (scaled_value h) (λ n d k.
      let num = 0 * up e * down d + n * up d * down e in
      let none : 0 * up e * down d ≡ 0 = rw (zero-mul (up e)) (zero-mul (down d)) in
      let plain : num ≡ n * up d * down e = omega arith in
      let same : num * 512 ≡ h * (down e * down d) =
      ap (λ (z : ℕ). z * 512) plain
      ∙ mul_right_comm (n * up d) (down e) 512
      ∙ ap (λ (z : ℕ). z * down e) k
      ∙ mul_right_comm h (down d) (down e)
      ∙ mul_assoc h (down e) (down d) in
      (round_sign binary64 num (down e * down d)).0
      ∙ ap neg (round_same binary64 false num (down e * down d) h 512 (mul-pos (down_pos e) (down_pos d)) (lit< tt) same ∙ rounded h H))

  half_itself : T (le (scaled h) (scaled h))
  half_itself = le_of_values (scaled h) (scaled h) h 512 h 512 (lit< tt) (lit< tt) (scaled_value h) (scaled_value h) (le_refl (h * 512))

  minus_zero_near : (e : ℤ) → Near h (sub binary64 (fin true 0 e) (scaled h))
  minus_zero_near e = rw (minus_zero_less e) (turned_near (scaled h) half_plus half_itself)

  middle_near : (x : Float) (s k : ℕ) → s + h ≡ k → T (fits binary64 x) → at_least s x ≡ true → at_least (k + h) x ≡ false
      → Near h (sub binary64 x (scaled k))
  unfolding at_least
  middle_near nan s k w t a b = absurd (true≢false (sym a))
  middle_near (inf true) s k w t a b = absurd (true≢false (sym a))
  middle_near (inf false) s k w t a b = absurd (true≢false b)
  middle_near (fin false m e) s k w t a b = by (dec_le (k * down e) (m * up e * 512))
    where
      by : Dec (k * down e ≤ m * up e * 512) → Near h (sub binary64 (fin false m e) (scaled k))
      by (yes l) = above_middle m e k t l (leb-false ((k + h) * down e) (m * up e * 512) b)
      by (no l) = under_middle m e k s w (leb-true (s * down e) (m * up e * 512) a) (omega arith)
  middle_near (fin true m e) s k w t a b =
      let zeros = both (eqb s 0) (eqb m 0) a in
      let middle : k ≡ h = omega (arith, eqb-true s 0 zeros.0) in
      rw (eqb-true m 0 zeros.1, middle) (minus_zero_near e)

pub distance_law : Distance
distance_law = record {
  from = λ s h x some H t a b. (middle_near h some H x s (s + h) refl t a b).from;
  below = λ s h x some H t a b. (middle_near h some H x s (s + h) refl t a b).below;
}
