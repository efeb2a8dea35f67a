-- Document 01, "The listing program", and order 5: the lines of a block, as bytes.
use Rattle.std.specs.Prelude.{Bool, false, true, cond, List, [], ◌++◌, ℕ, zero, suc, min, ℤ, get_or, Ok, Err}
use Rattle.text.specs.Ascii.{ascii, line_feed, space}
use Rattle.text.specs.Decimal.{field, signed_field}
use Rattle.refusal.specs.declared.Reason.{Reason}
use Rattle.refusal.specs.declared.Refusal.{Refusal}
use Rattle.decision.specs.Decision.{none}
use Rattle.decision.specs.declared.Character.{Character}
use Rattle.block_decoder.specs.declared.BlockDecoded.{BlockDecoded}
use Rattle.report.specs.Output.{refused_text}
use Rattle.refusal.specs.Refused.{Answered}

-- block number, and a character's place in it
unfoldable pub place_text : ℕ → ℕ → List ℕ
place_text block place = field block space ++ field place space

-- then code and lead
unfoldable pub decided_text : ℕ → ℕ → Character → List ℕ
decided_text block q character = place_text block q ++ (field character.code space ++ field character.lead space)

-- or, of a block refused by 10, `-` and lead
unfoldable pub marked_text : ℕ → Refusal → List ℕ
marked_text block r = place_text block r.place ++ (ascii "- " ++ field r.lead space)

-- a word and its correlation
unfoldable pub word_text : ℕ → ℤ → ℕ → List ℕ
word_text word correlation end = field word space ++ signed_field correlation end

-- the word that won and the word that came next; they end the line
unfoldable pub words_text : Character → List ℕ
words_text c = word_text c.word c.correlation space ++ word_text c.next c.next_correlation line_feed

unfoldable pub character_text : ℕ → ℕ → Character → List ℕ
character_text block q character = decided_text block q character ++ words_text character

-- the lines of the first n characters
unfoldable pub characters_text : ℕ → List Character → ℕ → List ℕ
characters_text block characters zero = []
characters_text block characters (suc n) = characters_text block characters n ++ character_text block n (get_or characters n none)

-- a block refused by 10, with its lowest unclear character
unfoldable pub unclear_text : ℕ → Refusal → Character → List ℕ
unclear_text block r character = marked_text block r ++ words_text character

abbrev pub is_unclear : Reason → Bool
is_unclear Reason.Unclear = true
is_unclear other = false

-- the line of a block that was refused
unfoldable pub refusal_text : ℕ → Refusal → List Character → List ℕ
refusal_text block r characters = cond (is_unclear r.reason) (unclear_text block r (get_or characters r.place none)) (refused_text r)

-- the lines of an answer; a block has eight characters at most
unfoldable pub answer_text : ℕ → Answered ℕ → List Character → List ℕ
answer_text block (Ok n) characters = characters_text block characters (min n 8)
answer_text block (Err r) characters = refusal_text block r characters

-- the lines of a block that was heard
unfoldable pub block_text : ℕ → BlockDecoded → List ℕ
block_text block d = answer_text block d.answer d.characters
