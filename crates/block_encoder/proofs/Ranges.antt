-- The limits of codes, as the test finds them and as numbers.
use mathlib.Core.List.{List}
use Prim.Native.Nat.{ℕ, ◌≤◌}
use native.Mathlib.Omega.{arith}
use borrow.Author.Tests.{lt-leb}
use lib.ListN.{length}
use Rattle.lists.specs.Lists.{num}
use Rattle.lists.proofs.Places.{first_none}
use Rattle.block_encoder.specs.Encoding.{IsText, bad_code, first_bad_code}

pub text_in_range : (b : ℕ) (text : List ℕ) → IsText b text → b ≤ first_bad_code text
unfolding first_bad_code
text_in_range b text h =
    omega (arith, h.count, first_none (bad_code text) (length text) (λ q l. lt-leb 128 (num text q) (h.codes q (omega (arith, h.count)))))
