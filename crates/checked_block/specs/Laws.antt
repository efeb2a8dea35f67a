-- The law of checked blocks. It is the promise of the function of the same name in src/laws.rt.
use Rattle.std.specs.Prelude.{List, ◌≡◌, ℕ, ◌^◌}
use Rattle.tone_range.specs.Range.{HasTones}
use Rattle.block_decoder.specs.Decoding.{decode_block, decoded_into}
use Rattle.checked_block.specs.Checked.{decode_checked, checked_into}

-- Where the tones are in range, a checked block is answered and written as every block is.
pub record InRange : Type 0 where
  pub answer : (b m : ℕ) (tones : List ℕ) (room : ℕ) → HasTones (2 ^ b) tones → decode_checked b m tones room ≡ (decode_block b m tones room).answer
  pub output : (b m : ℕ) (tones out : List ℕ) → HasTones (2 ^ b) tones → checked_into b m tones out ≡ decoded_into b m tones out
