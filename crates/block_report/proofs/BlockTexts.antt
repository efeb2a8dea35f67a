-- The text of a block that was accepted.
use mathlib.Core.List.{List}
use mathlib.Core.Path.{◌≡◌, refl}
use Prim.Native.Nat.{ℕ, zero, suc, ◌≤◌, min}
use native.Mathlib.Omega.{arith}
use lib.ListN.{length, take}
use lib.Seq.{get_or-take, length-take-le}
use Rattle.decision.specs.Decision.{none}
use Rattle.decision.specs.declared.Character.{Character}
use Rattle.block_decoder.specs.declared.BlockDecoded.{BlockDecoded}
use Rattle.block_report.specs.Lines.{characters_text, answer_text, block_text}
use Rattle.std.proofs.Common.{Ok}

-- the characters' text looks at no others
pub text_taken : (block : ℕ) (characters : List Character) (n : ℕ) → n ≤ length characters
    → characters_text block (take n characters) (length (take n characters)) ≡ characters_text block characters n
unfolding characters_text
text_taken block characters n h = rw (length-take-le n characters h) (up_to n (omega arith))
  where
    up_to : (k : ℕ) → k ≤ n → characters_text block (take n characters) k ≡ characters_text block characters k
    up_to zero l = refl
    up_to (suc k) l = rw (up_to k (omega arith), get_or-take n characters k none (omega arith))

module _ (block : ℕ) (d : BlockDecoded) where
  pub text_accepted : (n : ℕ) → d.answer ≡ Ok n → block_text block d ≡ characters_text block d.characters (min n 8)
  unfolding block_text answer_text
  text_accepted n e = rw e
