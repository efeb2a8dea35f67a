-- Document 02, order 1: the first start of a run at which 64 tones are accepted, and what finding it answers and leaves in the output.
-- Checks: 1, 2, 7, 9, 8, 13.
use Rattle.std.specs.Prelude.{Bool, cond, not, List, ℕ, ◌^◌, ltb, length, replicate, Ok, Err}
use Rattle.lists.specs.Places.{first}
use Rattle.refusal.specs.Refused.{Answered, refused_at}
use Rattle.refusal.specs.Checks.{within, is_mode, is_lead}
use Rattle.decision.specs.Decision.{none}
use Rattle.decision.specs.declared.Character.{Character}
use Rattle.tone_range.specs.Range.{first_bad_tone}
use Rattle.block_decoder.specs.Decoding.{decode_block, decoded_into}
use Rattle.search.specs.Starts.{longest_run, stretch_at, starts, is_text}
use Rattle.finder.specs.declared.BlockFound.{BlockFound}
use Rattle.refusal.specs.declared.Reason.{Reason}

-- whether the 64 tones from a start on are accepted, for an output of room codes
unfoldable pub decodes_at : ℕ → ℕ → List ℕ → ℕ → ℕ → Bool
decodes_at b m run room start = is_text (decode_block b m (stretch_at run start) room).answer

-- the first such start, else the count of starts
unfoldable pub first_start : ℕ → ℕ → List ℕ → ℕ → ℕ
first_start b m run room = first (decodes_at b m run room) (starts run)

-- a run is 64 to 4,096 tones
abbrev pub is_run : List ℕ → Bool
is_run run = within 64 longest_run (length run)

unfoldable pub found_start : ℕ → ℕ → List ℕ → ℕ → Answered ℕ
found_start b m run room =
    cond (not (is_mode b)) (Err (refused_at Reason.Mode 0))
    (cond (not (is_lead m)) (Err (refused_at Reason.LeastLead 0))
    (cond (not (is_run run)) (Err (refused_at Reason.ToneCount 0))
    (cond (ltb room b) (Err (refused_at Reason.Room 0))
    (cond (ltb (first_bad_tone (2 ^ b) run) (length run)) (Err (refused_at Reason.Tone (first_bad_tone (2 ^ b) run)))
    (cond (ltb (first_start b m run room) (starts run)) (Ok (first_start b m run room))
    (Err (refused_at Reason.NotFound 0)))))))

-- the records of the block found
unfoldable pub records_of : Answered ℕ → ℕ → ℕ → List ℕ → ℕ → List Character
records_of (Ok start) b m run room = (decode_block b m (stretch_at run start) room).characters
records_of (Err r) b m run room = replicate 8 none

-- the answer for an output of room codes
unfoldable pub find_block : ℕ → ℕ → List ℕ → ℕ → BlockFound
find_block b m run room = record { answer = found_start b m run room; characters = records_of (found_start b m run room) b m run room }

-- the output after an answer: as decoding the block found leaves it, or as it was
unfoldable pub written_at : Answered ℕ → ℕ → ℕ → List ℕ → List ℕ → List ℕ
written_at (Ok start) b m run codes = decoded_into b m (stretch_at run start) codes
written_at (Err r) b m run codes = codes

unfoldable pub found_into : ℕ → ℕ → List ℕ → List ℕ → List ℕ
found_into b m run codes = written_at (found_start b m run (length codes)) b m run codes
