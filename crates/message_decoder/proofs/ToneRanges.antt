-- Tones in range in a whole message are so in each of its blocks.
use mathlib.Core.Path.{◌≡◌}
use mathlib.Core.List.{List}
use Prim.Native.Nat.{ℕ, ◌+◌, ◌*◌, ◌<◌, ◌≤◌, ◌^◌}
use native.Mathlib.Omega.{arith}
use lib.ListN.{length, length-take, length-drop}
use lib.Seq.{get_or-take, get_or-drop}
use Rattle.lists.specs.Lists.{num}
use Rattle.tone_range.specs.Range.{HasTones, first_bad_tone}
use Rattle.tone_range.proofs.Ranges.{tones_good, good_tones, in_range_tones}
use Rattle.message_encoder.specs.Blocks.{block_at}

module _ (tones : List ℕ) (n k : ℕ) (whole : length tones ≡ 64 * n) (inside : k < n) where
  block_length : length (block_at tones k) ≡ 64
  block_length = simp (length-take, length-drop) (omega arith)

  block_tone : (t : ℕ) → t < 64 → num (block_at tones k) t ≡ num tones (64 * k + t)
  block_tone t h = rw (get_or-take, get_or-drop)

  pub block_has_tones : (b : ℕ) → length tones ≤ first_bad_tone (2 ^ b) tones → HasTones (2 ^ b) (block_at tones k)
  block_has_tones b h =
      let good : length (block_at tones k) ≤ first_bad_tone (2 ^ b) (block_at tones k) =
      good_tones (2 ^ b) (block_at tones k) (λ t l. rw (block_tone t (omega (arith, block_length))) (tones_good (2 ^ b) tones h (64 * k + t) (omega (arith, block_length)))) in
      in_range_tones b (block_at tones k) block_length (omega (arith, block_length))
