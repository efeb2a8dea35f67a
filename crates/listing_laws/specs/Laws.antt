-- The laws of the listing. Each is the promise of the function of the same name in src/laws.rt.
use Rattle.std.specs.Prelude.{true, List, [], ◌∷◌, ◌++◌, ◌≡◌, ℕ, ◌<◌, ◌^◌, length}
use Rattle.lists.specs.Lists.{every}
use Rattle.text.specs.Ascii.{ascii, line_feed}
use Rattle.stages.specs.declared.Listing.{Listing}
use Rattle.report.specs.Output.{heading}
use Rattle.listing_laws.specs.Listed.{listed}
use Rattle.stages.specs.Stages.{begun, is_stopped, ending_text}
use Rattle.listing.specs.Steps.{heard}
use Rattle.listing_laws.specs.Printed.{is_piece, together, pieces_said, printed}

-- for every way to cut an input into pieces, what is printed is the listing of the whole
pub record Whole : Type 0 where
  pub all : (pieces : List (List ℕ)) (tones : List ℕ) → every is_piece pieces ≡ true → length tones ≡ 256 → length (together pieces) < 2 ^ 64
      → heading ++ printed begun tones pieces ≡ listed (together pieces)

-- a line is printed as soon as its line feed is heard: all that is still to come is the text that ends a listing of the lines so far
pub record Live : Type 0 where
  pub lines : (pieces : List (List ℕ)) (tones input : List ℕ) → every is_piece pieces ≡ true → length tones ≡ 256 → length (together pieces) < 2 ^ 64
      → together pieces ≡ input ++ (line_feed ∷ [])
      → let said = pieces_said begun tones pieces in
      heading ++ (said.text ++ ending_text said.next.stage said.next.blocks) ≡ listed (together pieces)

-- a listing has stopped at the input's end, and one that has stopped prints nothing more
pub record Stops : Type 0 where
  pub at_end : (listing : Listing) (tones : List ℕ) → is_stopped (heard listing tones []).next.stage ≡ true
  pub silent : (listing : Listing) (tones : List ℕ) (pieces : List (List ℕ)) → is_stopped listing.stage ≡ true → printed listing tones pieces ≡ []

-- document 01's example, for the key's bits 0 to 63, as order 5 has it, and what is said of an empty input
pub record Example : Type 0 where
  pub key_bits : listed (ascii "1 64\n0 0 1 1 0 1 1 1 0 0 1 0 1 1 1 0 1 0 1 0 1 0 0 0 1 0 0 1 0 1 0 0 0 0 0 0 1 0 1 1 0 1 1 0 0 1 1 1 1 1 1 0 1 0 1 0 0 1 0 0 0 1 1 1\n") ≡ ascii "BLOCK CHAR CODE LEAD WORD CORR NEXT CORR\n0 0 0 64 0 64 1 0\nEND 1\n"
  pub empty : listed [] ≡ ascii "BLOCK CHAR CODE LEAD WORD CORR NEXT CORR\nREFUSED INPUT 1\n"
