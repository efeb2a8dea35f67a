-- The laws of the f64 numbers k / 512. Each is the promise of the function of the same name in src/laws.rt. `HasValue x false a c` says
-- that x is finite, has no minus sign, and is a / c.
use Rattle.std.specs.Prelude.{◌≡◌, false, ℕ, ◌+◌, ◌-◌, ◌*◌, ◌^◌, ◌<◌, ◌≤◌, T, Float}
use Rattle.std.specs.Float.{binary64}
use Rattle.std.specs.Float.Ieee.{fits, add, sub, mul, div}
use Rattle.std.specs.Float.Ieee.Exact.{HasValue}
use Rattle.scaled.specs.Exact.{scaled, whole}

-- `scaled k` is an f64, has the value k / 512, and no other f64 has it.
pub record Exact : Type 0 where
  pub held : (k : ℕ) → k < 2 ^ 53 → T (fits binary64 (scaled k))
  pub value : (k : ℕ) → HasValue (scaled k) false k 512
  pub only : (k : ℕ) (x : Float) → k < 2 ^ 53 → T (fits binary64 x) → HasValue x false k 512 → x ≡ scaled k

-- The f64 operations on such numbers give the exact result, as long as it is below 2^53 / 512.
pub record Steps : Type 0 where
  pub cast : (n : ℕ) → 512 * n < 2 ^ 53 → whole n ≡ scaled (512 * n)
  pub sum : (i j : ℕ) → i + j < 2 ^ 53 → add binary64 (scaled i) (scaled j) ≡ scaled (i + j)
  pub difference : (i j : ℕ) → j ≤ i → i < 2 ^ 53 → sub binary64 (scaled i) (scaled j) ≡ scaled (i - j)
  pub product : (i n : ℕ) → n < 2 ^ 53 → i * n < 2 ^ 53 → mul binary64 (scaled i) (whole n) ≡ scaled (i * n)
  pub quotient : (i e : ℕ) → e < 53 → i < 2 ^ 53 → div binary64 (scaled (i * 2 ^ e)) (whole (2 ^ e)) ≡ scaled i
