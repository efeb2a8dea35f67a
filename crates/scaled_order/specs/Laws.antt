-- The laws of any f64 beside the numbers k / 512. Each is the promise of the function of the same name in src/laws.rt.
-- `HasValue x s a c` says that x is finite, has a minus sign if s is true, and is a / c or −a / c.
use Rattle.std.specs.Prelude.{◌≡◌, true, false, ◌&&◌, ℕ, ◌+◌, ◌*◌, ◌^◌, ◌<◌, T, leb, eqb, Float}
use Rattle.std.specs.Float.{binary64}
use Rattle.std.specs.Float.Ieee.{fits, neg, sub, lt, le}
use Rattle.std.specs.Float.Ieee.Exact.{HasValue}
use Rattle.scaled.specs.Exact.{scaled}
use Rattle.scaled_order.specs.Order.{at_least}

-- The order is that of the fractions; with a minus sign only 0 is 0 or more. One comparison in f64 decides it, of NaN and the infinities too.
pub record Order : Type 0 where
  pub plus : (k a c : ℕ) (x : Float) → 0 < c → HasValue x false a c → at_least k x ≡ leb (k * c) (a * 512)
  pub minus : (k a c : ℕ) (x : Float) → 0 < c → HasValue x true a c → at_least k x ≡ eqb k 0 && eqb a 0
  pub compared : (k : ℕ) (x : Float) → le (scaled k) x ≡ at_least k x

-- An f64 from s / 512 up to, but without, (s + 2h) / 512, less the middle of that stretch: at least −h / 512 and below h / 512, after the
-- difference is rounded too.
pub record Distance : Type 0 where
  pub from : (s h : ℕ) (x : Float) → 0 < h → h < 2 ^ 53 → T (fits binary64 x) → at_least s x ≡ true → at_least (s + h + h) x ≡ false
      → le (neg (scaled h)) (sub binary64 x (scaled (s + h))) ≡ true
  pub below : (s h : ℕ) (x : Float) → 0 < h → h < 2 ^ 53 → T (fits binary64 x) → at_least s x ≡ true → at_least (s + h + h) x ≡ false
      → lt (sub binary64 x (scaled (s + h))) (scaled h) ≡ true
