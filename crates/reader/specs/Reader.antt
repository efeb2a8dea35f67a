-- The reader of a line: a state that takes a byte and gives the next state. The tones of the words that ended stand in a lent array.
use Rattle.std.specs.Prelude.{Bool, false, true, cond, ◌&&◌, List, [], ◌∷◌, ℕ, ◌+◌, ◌-◌, ◌*◌, min, leb, eqb, length, drop, set}
use Rattle.text.specs.Ascii.{line_feed, space, hyphen}
use Rattle.text.specs.Decimal.{is_digit}
use Rattle.chain.specs.Chain.{missing_mark}
use Rattle.reader.specs.declared.Word.{Word}
use Rattle.reader.specs.declared.Word.TheVariants.{Empty, Number, Unreadable}
use Rattle.reader.specs.declared.Line.{Line}
use Rattle.reader.specs.declared.Stretch.{Stretch}

-- ---- a word

-- one digit more
unfoldable pub number_with : ℕ → ℕ → Word
number_with v d = cond (leb (10 * v + d) 65535) (Number (10 * v + d)) Unreadable

unfoldable pub with_digit : Word → ℕ → Word
with_digit Empty d = number_with 0 d
with_digit (Number v) d = number_with v d
with_digit Unreadable d = Unreadable

-- `-` is the number of a missing tone
abbrev pub with_mark : Word → Word
with_mark Empty = Number missing_mark
with_mark (Number v) = Unreadable
with_mark Unreadable = Unreadable

-- one byte more, which is no space
unfoldable pub next_word : Bool → Word → ℕ → Word
next_word marks w c = cond (is_digit c) (with_digit w (c - 48)) (cond (eqb c hyphen && marks) (with_mark w) Unreadable)

abbrev pub is_whole : Word → Bool
is_whole Empty = false
is_whole (Number v) = true
is_whole Unreadable = false

abbrev pub is_empty : Word → Bool
is_empty Empty = true
is_empty (Number v) = false
is_empty Unreadable = false

abbrev pub tone_in : Word → ℕ
tone_in Empty = 0
tone_in (Number v) = v
tone_in Unreadable = 0

-- ---- a line

abbrev pub fresh : Line
fresh = record { word = Empty; count = 0 }

-- a word ends: its tone is kept, and if it is none the line is unreadable
unfoldable pub word_end : Line → Line
word_end line =
    cond (is_whole line.word) (record { word = Empty; count = min (line.count + 1) 255 }) (record { word = Unreadable; count = line.count })

unfoldable pub kept_tone : Line → List ℕ → List ℕ
kept_tone line tones = cond (is_whole line.word) (set tones line.count (tone_in line.word)) tones

-- one byte more, which is no line feed
unfoldable pub next_line : Bool → Line → ℕ → Line
next_line marks line c = cond (eqb c space) (word_end line) (record { word = next_word marks line.word c; count = line.count })

unfoldable pub next_tones : Line → ℕ → List ℕ → List ℕ
next_tones line c tones = cond (eqb c space) (kept_tone line tones) tones

-- nothing of a line was read
abbrev pub is_blank : Line → Bool
is_blank line = is_empty line.word && eqb line.count 0

-- a line ends, and its last word with it
unfoldable pub line_end : Line → Line
line_end line = cond (is_blank line) line (word_end line)

unfoldable pub end_tones : Line → List ℕ → List ℕ
end_tones line tones = cond (is_blank line) tones (kept_tone line tones)

-- of a line that ended: every word of it was read
abbrev pub is_read : Line → Bool
is_read line = is_empty line.word

-- ---- the bytes of a line

unfoldable pub read_line : Bool → Line → List ℕ → Line
read_line marks line [] = line
read_line marks line (c ∷ cs) = read_line marks (next_line marks line c) cs

unfoldable pub read_tones : Bool → Line → List ℕ → List ℕ → List ℕ
read_tones marks line [] tones = tones
read_tones marks line (c ∷ cs) tones = read_tones marks (next_line marks line c) cs (next_tones line c tones)

-- what stands before the first line feed
unfoldable pub before_feed : List ℕ → List ℕ
before_feed [] = []
before_feed (c ∷ cs) = cond (eqb c line_feed) [] (c ∷ before_feed cs)

-- the bytes of a line from a place on
unfoldable pub line_from : List ℕ → ℕ → List ℕ
line_from bytes from = before_feed (drop from bytes)

unfoldable pub stretch : Bool → Line → List ℕ → ℕ → Stretch
stretch marks line bytes from = record { line = read_line marks line (line_from bytes from); at = from + length (line_from bytes from) }
