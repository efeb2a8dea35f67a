use Rattle.std.proofs.Common.{◌≡◌, ◌+◌, ◌-◌}
use Rattle.lists.specs.Places.{scan}
use Rattle.tone_range.specs.Range.{bad_tone}
use Rattle.block_decoder.specs.Internal.{seen_to}
use Rattle.block_decoder.proofs.decode.look_row.Given as goal

abbrev pub invariant-loop-t : goal.invariant-loop-t
invariant-loop-t l =
    (scan (bad_tone l.limit l.tones) l.t (l.from + 16 - l.t) ≡ scan (bad_tone l.limit l.tones) l.from 16) × (l.symbols ≡ seen_to l.tones l.t)
