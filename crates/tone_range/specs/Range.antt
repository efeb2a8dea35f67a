-- Tones in range: document 01's refusal 8, a tone that is neither one of the mode's nor missing; and how many tones the check looks at,
-- document 02's order 2.
use Rattle.std.specs.Prelude.{◌≡◌, ℕ, ◌+◌, ◌<◌, Bool, cond, not, ◌&&◌, ◌⊎◌, List, length, ◌==◌, nat_le, nat_lt}
use Rattle.lists.specs.Lists.{num}
use Rattle.lists.specs.Places.{first}
use Rattle.lists.specs.Found.{found}
use Rattle.chain.specs.Chain.{missing_mark}
use Rattle.tone_range.specs.declared.Looked.{Looked}

-- 64 tones, each below limit or the missing mark
pub record HasTones (limit : ℕ) (tones : List ℕ) : Type 0 where
  pub count : length tones ≡ 64
  pub each : (t : ℕ) → t < 64 → (num tones t < limit) ⊎ (num tones t ≡ missing_mark)

-- a tone that is neither below limit nor missing
abbrev pub bad_tone : ℕ → List ℕ → ℕ → Bool
bad_tone limit tones t = nat_le limit (num tones t) && not (num tones t == missing_mark)

-- the lowest place of such a tone, else the count of tones
unfoldable pub first_bad_tone : ℕ → List ℕ → ℕ
first_bad_tone limit tones = first (bad_tone limit tones) (length tones)

-- how many tones are looked at, up to the first bad one: its place plus one, or all if none is bad
unfoldable pub looked_at : ℕ → List ℕ → ℕ
looked_at limit tones = cond (nat_lt (first_bad_tone limit tones) (length tones)) (first_bad_tone limit tones + 1) (length tones)

-- what the check finds, and how many tones it looks at
unfoldable pub range_of : ℕ → List ℕ → Looked
range_of limit tones = record { bad = found (length tones) (first_bad_tone limit tones); looked = looked_at limit tones }
