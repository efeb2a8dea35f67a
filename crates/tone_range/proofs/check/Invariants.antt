use Rattle.std.proofs.Common.{◌≡◌, ◌-◌, length}
use Rattle.lists.specs.Places.{scan}
use Rattle.tone_range.specs.Range.{bad_tone, first_bad_tone}
use Rattle.tone_range.proofs.check.Given as goal

abbrev pub invariant-loop-t : goal.invariant-loop-t
invariant-loop-t l = (l.looked ≡ l.t) × (scan (bad_tone l.limit l.tones) l.t (length l.tones - l.t) ≡ first_bad_tone l.limit l.tones)
