-- Document 01, "The listing program": the heading, and the lines that end a listing, as bytes.
use Rattle.std.specs.Prelude.{cond, List, [], ◌++◌, ℕ, leb}
use Rattle.text.specs.Ascii.{ascii, line_feed, space}
use Rattle.text.specs.Decimal.{field}
use Rattle.refusal.specs.declared.Refusal.{Refusal}
use Rattle.refusal.specs.Refused.{number_of}

-- document 01's columns, and those of order 5
unfoldable pub heading : List ℕ
heading = ascii "BLOCK CHAR CODE LEAD WORD CORR NEXT CORR\n"

unfoldable pub refused_text : Refusal → List ℕ
refused_text r = ascii "REFUSED " ++ field (number_of r.reason) space ++ field r.place line_feed

unfoldable pub unreadable_text : ℕ → List ℕ
unreadable_text line = ascii "REFUSED INPUT " ++ field line line_feed

unfoldable pub end_text : ℕ → List ℕ
end_text blocks = ascii "END " ++ field blocks line_feed

-- what is put of a text into an output of room bytes: the text, or nothing if they are less than 1,024
unfoldable pub fitting : List ℕ → ℕ → List ℕ
fitting text room = cond (leb 1024 room) text []
