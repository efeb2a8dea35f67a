use Rattle.std.proofs.Common.{◌≡◌, ◌*◌, ◌-◌}
use Rattle.lists.specs.Places.{scan}
use Rattle.tone_range.specs.Range.{bad_tone, first_bad_tone}
use Rattle.block_decoder.specs.Internal.{seen_to}
use Rattle.block_decoder.proofs.decode.look.Given as goal

abbrev pub invariant-loop-row : goal.invariant-loop-row
invariant-loop-row l =
    (scan (bad_tone l.limit l.tones) (16 * l.row) (64 - 16 * l.row) ≡ first_bad_tone l.limit l.tones) × (l.symbols ≡ seen_to l.tones (16 * l.row))
