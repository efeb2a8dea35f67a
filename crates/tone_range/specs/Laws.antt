-- The law of the range check. It is the promise of the function of the same name in src/laws.rt.
use Rattle.std.specs.Prelude.{◌≡◌, ℕ, ◌<◌, List, ◌++◌, length}
use Rattle.tone_range.specs.Range.{first_bad_tone, range_of}

-- The check stops at the first bad tone: whatever follows it, the answer is the same.
pub record Stops : Type 0 where
  pub unseen : (limit : ℕ) (tones rest : List ℕ) → first_bad_tone limit tones < length tones → range_of limit (tones ++ rest) ≡ range_of limit tones
