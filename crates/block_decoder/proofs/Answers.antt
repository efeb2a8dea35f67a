-- The answer to a block that breaks no limit.
use mathlib.Core.Path.{◌≡◌}
use mathlib.Core.List.{List}
use Prim.Native.Nat.{ℕ, ◌≤◌, ◌^◌}
use native.Mathlib.Omega.{arith}
use lib.ListN.{length}
use Rattle.refusal.specs.Checks.{IsSet}
use Rattle.tone_range.specs.Range.{HasTones}
use Rattle.tone_range.proofs.Ranges.{tones_in_range}
use Rattle.weight_range.specs.Range.{HasWeights}
use Rattle.weight_range.proofs.Ranges.{weights_in_range, has_throughout}
use Rattle.block_decoder.specs.Decoding.{plain, weighted_of, characters_of, heard_block, decode_block}
use Rattle.block_decoder.proofs.DecodeCases.{Passed, judged, judges}

pub weighed_up : (N b m : ℕ) (tones weights : List ℕ) (room : ℕ) → Passed N b m (length tones) (length weights) room → HasTones (2 ^ b) tones
    → HasWeights N weights → heard_block N b m tones weights room ≡ judged b m (weighted_of b tones weights)
weighed_up N b m tones weights room p w h = judges N b m tones weights room p (tones_in_range b tones w) (weights_in_range N weights h)

-- in plain hearing

pub passed : (b m : ℕ) (tones : List ℕ) (room : ℕ) → IsSet b m → length tones ≡ 64 → b ≤ room → Passed 1 b m (length tones) (length plain) room
passed b m tones room s n h = record { mode = s.mode; lead = s.lead; count = n; weighed = (has_throughout 1 1 (omega arith)).count; fits = h }

pub decided : (b m : ℕ) (tones : List ℕ) (room : ℕ) → IsSet b m → HasTones (2 ^ b) tones → b ≤ room
    → decode_block b m tones room ≡ judged b m (characters_of b tones)
decided b m tones room s w h = weighed_up 1 b m tones plain room (passed b m tones room s w.count h) w (has_throughout 1 1 (omega arith))
