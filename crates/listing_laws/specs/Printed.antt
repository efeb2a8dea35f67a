-- What is printed for an input that comes in pieces, one call of `listing::hear` after the other.
use Rattle.std.specs.Prelude.{Bool, false, true, List, [], ◌∷◌, ◌++◌, ℕ}
use Rattle.stages.specs.declared.Listing.{Listing}
use Rattle.stages.specs.Stages.{Said}
use Rattle.listing.specs.Steps.{and_then, heard, heard_tones}

-- a piece has bytes: no bytes are the end of the input
abbrev pub is_piece : List ℕ → Bool
is_piece [] = false
is_piece (c ∷ cs) = true

-- the input that is cut into pieces
unfoldable pub together : List (List ℕ) → List ℕ
together [] = []
together (piece ∷ pieces) = piece ++ together pieces

-- piece after piece
unfoldable pub pieces_said : Listing → List ℕ → List (List ℕ) → Said
pieces_said listing tones [] = record { text = []; next = listing }
pieces_said listing tones (piece ∷ pieces) = and_then (heard listing tones piece).text (pieces_said (heard listing tones piece).next (heard_tones listing tones piece) pieces)

unfoldable pub pieces_tones : Listing → List ℕ → List (List ℕ) → List ℕ
pieces_tones listing tones [] = tones
pieces_tones listing tones (piece ∷ pieces) = pieces_tones (heard listing tones piece).next (heard_tones listing tones piece) pieces

-- and then the end
unfoldable pub printed : Listing → List ℕ → List (List ℕ) → List ℕ
printed listing tones pieces = (pieces_said listing tones pieces).text ++ (heard (pieces_said listing tones pieces).next (pieces_tones listing tones pieces) []).text
