-- Document 01, "The listing program": lines, words and numbers of its input, which is bytes.
use Rattle.std.specs.Prelude.{Bool, false, true, cond, ◌&&◌, ◌||◌, List, [], ◌∷◌, map, ℕ, leb, eqb, length}
use Rattle.lists.specs.Lists.{every}
use Rattle.text.specs.Ascii.{line_feed, space, hyphen}
use Rattle.text.specs.Decimal.{is_digit, value_from}
use Rattle.chain.specs.Chain.{missing_mark}

-- ---- lines and words

-- c at the front of the first part
unfoldable pub on_first : ℕ → List (List ℕ) → List (List ℕ)
on_first c [] = (c ∷ []) ∷ []
on_first c (part ∷ parts) = (c ∷ part) ∷ parts

-- the lines of an input; the last line feed may be absent
unfoldable pub lines : List ℕ → List (List ℕ)
lines [] = []
lines (c ∷ cs) = cond (eqb c line_feed) ([] ∷ lines cs) (on_first c (lines cs))

-- what stands before, between and after the spaces
unfoldable pub parts : List ℕ → List (List ℕ)
parts [] = [] ∷ []
parts (c ∷ cs) = cond (eqb c space) ([] ∷ parts cs) (on_first c (parts cs))

-- the words of a line, of which an empty line has none
unfoldable pub words : List ℕ → List (List ℕ)
words [] = []
words (c ∷ cs) = parts (c ∷ cs)

-- ---- numbers

-- a number is one or more decimal digits, at most 65,535
unfoldable pub is_number : List ℕ → Bool
is_number [] = false
is_number (c ∷ cs) = every is_digit (c ∷ cs) && leb (value_from 0 (c ∷ cs)) 65535

-- `-`
unfoldable pub is_mark : List ℕ → Bool
is_mark [] = false
is_mark (c ∷ []) = eqb c hyphen
is_mark (c ∷ d ∷ cs) = false

-- ---- lines that can be read

-- a number or, where marks may stand, `-`
unfoldable pub is_word : Bool → List ℕ → Bool
is_word marks w = is_number w || marks && is_mark w

-- line 1: two numbers, one space between
unfoldable pub is_readable_first : List ℕ → Bool
is_readable_first line = every (is_word false) (words line) && eqb (length (words line)) 2

-- a later line: empty, or numbers or `-`, one space between
unfoldable pub is_readable : List ℕ → Bool
is_readable line = every (is_word true) (words line)

unfoldable pub value_of : List ℕ → ℕ
value_of w = cond (is_mark w) missing_mark (value_from 0 w)

-- the tones of a later line, and the mode and the set lead of line 1
unfoldable pub values_of : List ℕ → List ℕ
values_of line = map value_of (words line)
