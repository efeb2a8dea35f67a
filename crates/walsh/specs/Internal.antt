-- What only private contracts need: a step on a list, and the bound of its numbers.
use Rattle.std.specs.Prelude.{List, ℕ, ◌≤◌, ℤ, nat_abs}
use Rattle.lists.specs.Lists.{tab, at}
use Rattle.walsh.specs.Transform.{butterfly}

unfoldable pub step_of : List ℤ → List ℤ
step_of x = tab (butterfly (at x)) 64

-- no element is above b in magnitude
pub record Within (b : ℕ) (x : List ℤ) : Type 0 where
  pub within : (i : ℕ) → nat_abs (at x i) ≤ b
