-- Numbers as 32 bits hold them.
use Rattle.std.specs.Prelude.{ℕ, min}

-- the largest number of 32 bits stands for every larger one
unfoldable pub capped : ℕ → ℕ
capped n = min n 4294967295
