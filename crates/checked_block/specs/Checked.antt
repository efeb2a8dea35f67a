-- Hearing a block whose tones were checked before: there is no refusal 8, and a tone that is none of the mode's counts as missing.
use Rattle.std.specs.Prelude.{cond, List, ℕ, ◌^◌, ltb, length}
use Rattle.lists.specs.Lists.{tab, num}
use Rattle.chain.specs.Chain.{missing_mark}
use Rattle.block_decoder.specs.Decoding.{decode_block, decoded_into}
use Rattle.refusal.specs.Refused.{Answered}

-- a tone below limit, and every other one missing
unfoldable pub tone_below : ℕ → ℕ → ℕ
tone_below limit tone = cond (ltb tone limit) tone missing_mark

unfoldable pub tones_below : ℕ → List ℕ → List ℕ
tones_below limit tones = tab (λ t. tone_below limit (num tones t)) (length tones)

-- what a tone counts: 1 below limit, and 0 else
unfoldable pub weight_below : ℕ → ℕ → ℕ
weight_below limit tone = cond (ltb tone limit) 1 0

-- the answer for an output of room codes
abbrev pub decode_checked : ℕ → ℕ → List ℕ → ℕ → Answered ℕ
decode_checked b m tones room = (decode_block b m (tones_below (2 ^ b) tones) room).answer

-- the output after it
abbrev pub checked_into : ℕ → ℕ → List ℕ → List ℕ → List ℕ
checked_into b m tones out = decoded_into b m (tones_below (2 ^ b) tones) out
