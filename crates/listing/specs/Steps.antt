-- The listing as a state that takes a piece of the input and gives the next state and what is printed.
use Rattle.std.specs.Prelude.{Bool, false, true, cond, List, [], ◌∷◌, ◌++◌, ℕ, eqb}
use Rattle.text.specs.Ascii.{line_feed}
use Rattle.reader.specs.Reader.{is_blank, next_line, next_tones, end_tones}
use Rattle.stages.specs.declared.Stage.{Stage}
use Rattle.stages.specs.declared.Stage.TheVariants.{Settings, Blocks, Stopped}
use Rattle.stages.specs.declared.Listing.{Listing}
use Rattle.stages.specs.Stages.{Said, stops, ending_text}
use Rattle.judge.specs.Judged.{closed}

-- ---- a byte

-- `-` may stand in every line but the first
abbrev pub takes_marks : Stage → Bool
takes_marks Settings = false
takes_marks Blocks = true
takes_marks Stopped = true

-- a byte that is no line feed
unfoldable pub within_line : Listing → ℕ → Listing
within_line listing c =
    record {
      stage = listing.stage;
      mode = listing.mode;
      least_lead = listing.least_lead;
      blocks = listing.blocks;
      line = next_line (takes_marks listing.stage) listing.line c;
    }

unfoldable pub stepped : Listing → ℕ → List ℕ → Said
stepped listing c tones = cond (eqb c line_feed) (closed listing tones) (record { text = []; next = within_line listing c })

unfoldable pub stepped_tones : Listing → ℕ → List ℕ → List ℕ
stepped_tones listing c tones = cond (eqb c line_feed) (end_tones listing.line tones) (next_tones listing.line c tones)

-- ---- a piece of the input, and its end

-- a text, and then what is said
unfoldable pub and_then : List ℕ → Said → Said
and_then text said = record { text = text ++ said.text; next = said.next }

-- the bytes of a piece, one after the other
unfoldable pub piece_said : Listing → List ℕ → List ℕ → Said
piece_said listing tones [] = record { text = []; next = listing }
piece_said listing tones (c ∷ cs) = and_then (stepped listing c tones).text (piece_said (stepped listing c tones).next (stepped_tones listing c tones) cs)

unfoldable pub piece_tones : Listing → List ℕ → List ℕ → List ℕ
piece_tones listing tones [] = tones
piece_tones listing tones (c ∷ cs) = piece_tones (stepped listing c tones).next (stepped_tones listing c tones) cs

-- a last line with no line feed is a line too
unfoldable pub last_line : Listing → List ℕ → Said
last_line listing tones = cond (is_blank listing.line) (record { text = []; next = listing }) (closed listing tones)

-- after the text at the input's end nothing follows
unfoldable pub ended : Listing → List ℕ → Said
ended listing tones = and_then (last_line listing tones).text (stops (ending_text (last_line listing tones).next.stage (last_line listing tones).next.blocks))

-- what is heard at once: a piece of the input, or no bytes at its end
unfoldable pub heard : Listing → List ℕ → List ℕ → Said
heard listing tones [] = ended listing tones
heard listing tones (c ∷ cs) = piece_said listing tones (c ∷ cs)

unfoldable pub heard_tones : Listing → List ℕ → List ℕ → List ℕ
heard_tones listing tones [] = end_tones listing.line tones
heard_tones listing tones (c ∷ cs) = piece_tones listing tones (c ∷ cs)
