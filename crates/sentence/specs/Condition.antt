-- The condition on a list of sentences, which the checker computes. The laws of `sentence_laws` follow from it for any list that has a row.
use Rattle.std.specs.Prelude.{Bool, true, false, cond, not, ◌&&◌, ◌||◌, List, [], ◌∷◌, ◌++◌, ℕ, leb, eqb}
use Rattle.lists.specs.Lists.{every}
use Rattle.text.specs.Ascii.{ascii}
use Rattle.text.specs.Decimal.{is_digit, decimal}
use Rattle.sentence.specs.Patterns.{place_mark, lead_mark, has}
use Rattle.sentence.specs.Sentences.{Row, number}

unfoldable pub is_mark : ℕ → Bool
is_mark c = eqb c place_mark || eqb c lead_mark

-- ---- one pattern

-- what may follow a number: the end, or a byte that is neither a digit nor a mark
unfoldable pub ends_number : List ℕ → Bool
ends_number [] = true
ends_number (c ∷ cs) = not (is_digit c) && not (is_mark c)

-- each mark stands once, and its number ends where the text shows it
unfoldable pub is_pattern : List ℕ → Bool
is_pattern [] = true
is_pattern (c ∷ cs) = cond (is_mark c) (not (has c cs) && ends_number cs && is_pattern cs) (is_pattern cs)

-- printable ASCII
unfoldable pub is_printable : ℕ → Bool
is_printable c = leb 32 c && leb c 126

-- `Refusal 8: `
unfoldable pub heading : ℕ → List ℕ
heading n = ascii "Refusal " ++ decimal n ++ ascii ": "

unfoldable pub begins_with : List ℕ → List ℕ → Bool
begins_with [] text = true
begins_with (x ∷ xs) [] = false
begins_with (x ∷ xs) (c ∷ cs) = eqb x c && begins_with xs cs

-- a row shows its number and its place, in printable ASCII
unfoldable pub is_row : Row → Bool
is_row r = is_pattern r.pattern && has place_mark r.pattern && every is_printable r.pattern && begins_with (heading (number r)) r.pattern

-- ---- two rows

-- two patterns differ in a byte before any mark
unfoldable pub part : List ℕ → List ℕ → Bool
part [] qs = false
part (p ∷ ps) [] = false
part (p ∷ ps) (q ∷ qs) = not (is_mark p) && not (is_mark q) && (not (eqb p q) || part ps qs)

-- a row's number is none of theirs, and its pattern parts from theirs
unfoldable pub is_apart : Row → List Row → Bool
is_apart r [] = true
is_apart r (s ∷ ss) = not (eqb (number r) (number s)) && part r.pattern s.pattern && is_apart r ss

-- ---- the list

unfoldable pub are_sound : List Row → Bool
are_sound [] = true
are_sound (r ∷ rs) = is_row r && is_apart r rs && are_sound rs
