-- The energy of 64 counts or correlations: document 02, order 13.
use Rattle.std.specs.Prelude.{ℕ, ◌*◌, ℤ, nat_abs}
use Rattle.lists.specs.Sums.{total}

unfoldable pub square : ℤ → ℕ
square x = nat_abs x * nat_abs x

-- the sum of the squares of x 0, .., x 63
unfoldable pub energy : (ℕ → ℤ) → ℕ
energy x = total 64 (λ i. square (x i))
