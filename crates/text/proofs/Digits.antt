-- A byte that is a digit, by the test and as a number.
use mathlib.Core.Path.{◌≡◌}
use mathlib.Core.Bool.{true, and-eq-true_iff}
use Prim.Native.Nat.{ℕ, ◌≤◌}
use borrow.Author.Tests.{leb-true, le-leb}
use lib.Dec.{leb}
use Rattle.text.specs.Decimal.{is_digit}

module _ (c : ℕ) where
  pub is_digit_lem : 48 ≤ c → c ≤ 57 → is_digit c ≡ true
  is_digit_lem low high = rw (le-leb 48 c low, le-leb c 57 high)

  pub digit_range : is_digit c ≡ true → (48 ≤ c) × (c ≤ 57)
  digit_range e =
      let both = (and-eq-true_iff (leb 48 c) (leb c 57)).0 e in
      (leb-true 48 c both.0, leb-true c 57 both.1)
