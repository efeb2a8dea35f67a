-- Document 02, order 1: the starts of a run of tones, and the first at which 64 tones are accepted that were checked before.
use Rattle.std.specs.Prelude.{Bool, true, false, cond, List, ℕ, ◌-◌, ltb, length, take, drop, Ok, Err}
use Rattle.lists.specs.Places.{first}
use Rattle.checked_block.specs.Checked.{decode_checked}
use Rattle.refusal.specs.Refused.{Answered}

-- the most tones that a run may have
abbrev pub longest_run : ℕ
longest_run = 4096

-- the 64 tones from a start on
unfoldable pub stretch_at : List ℕ → ℕ → List ℕ
stretch_at run start = take 64 (drop start run)

-- so many starts leave 64 tones
abbrev pub starts : List ℕ → ℕ
starts run = length run - 63

-- whether an answer is a text
abbrev pub is_text : Answered ℕ → Bool
is_text (Ok n) = true
is_text (Err r) = false

-- whether the 64 tones from a start on are accepted, a tone that is none of the mode's counting as missing
unfoldable pub accepted_at : ℕ → ℕ → List ℕ → ℕ → Bool
accepted_at b m run start = is_text (decode_checked b m (stretch_at run start) b)

-- the first such start, else the count of starts; in a run that is too long none is looked for
unfoldable pub first_accepted : ℕ → ℕ → List ℕ → ℕ
first_accepted b m run = cond (ltb longest_run (length run)) (starts run) (first (accepted_at b m run) (starts run))
