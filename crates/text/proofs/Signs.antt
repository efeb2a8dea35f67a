-- How many bytes a number's sign has, by the test of the sign.
use mathlib.Core.Path.{◌≡◌, refl}
use Prim.Native.Nat.{◌≤◌}
use native.Mathlib.Omega.{arith}
use borrow.Author.Tests.{le-ltb}
use lib.IntN.{ℤ, pos, negsuc}
use lib.ListN.{length}
use lib.Signed.{lt_z}
use mir.Syntax.{w32}
use mir.Val.{SFits, to_z, of_z, bool_byte}
use mir.Facts.{to_z-of_z}
use Rattle.text.specs.Decimal.{sign}

sign_size : (z : ℤ) → bool_byte (lt_z z (pos 0)) ≡ length (sign z)
sign_size (pos n) = rw (le-ltb n 0 (omega arith))
sign_size (negsuc n) = refl

pub sign_short : (z : ℤ) → length (sign z) ≤ 1
sign_short (pos n) = omega arith
sign_short (negsuc n) = omega arith

-- ---- in a local of 32 bits

module _ (z : ℤ) (h : SFits w32 z) where
  pub minus_size : bool_byte (lt_z (to_z w32 (of_z w32 z)) (pos 0)) ≡ length (sign z)
  minus_size = rw (to_z-of_z h) (sign_size z)
