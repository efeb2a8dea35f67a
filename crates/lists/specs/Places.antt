-- First places.
use Rattle.std.specs.Prelude.{Bool, cond, ℕ, zero, suc}

-- the first of the n places from i on at which p holds, else i + n
unfoldable pub scan : (ℕ → Bool) → ℕ → ℕ → ℕ
scan p i zero = i
scan p i (suc n) = cond (p i) i (scan p (suc i) n)

-- the lowest place below n at which p holds, else n (law `FirstPlace`)
abbrev pub first : (ℕ → Bool) → ℕ → ℕ
first p n = scan p 0 n
