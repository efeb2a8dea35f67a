-- A pattern is a sentence in which one byte stands for the place and one for the lead.
use Rattle.std.specs.Prelude.{Bool, true, false, cond, not, ◌&&◌, ◌||◌, List, [], ◌∷◌, ◌++◌, ℕ, leb, eqb}
use Rattle.text.specs.Decimal.{decimal}

-- `#`
abbrev pub place_mark : ℕ
place_mark = 35

-- `%`
abbrev pub lead_mark : ℕ
lead_mark = 37

-- places go up to 65,535 and leads up to 960
abbrev pub most_place : ℕ
most_place = 65535

abbrev pub most_lead : ℕ
most_lead = 960

-- ---- the sentence of a pattern

-- what stands for a byte of a pattern
unfoldable pub piece_text : ℕ → ℕ → ℕ → List ℕ
piece_text place lead c = cond (eqb c place_mark) (decimal place) (cond (eqb c lead_mark) (decimal lead) (c ∷ []))

-- a pattern with its place and its lead put in
unfoldable pub filled : ℕ → ℕ → List ℕ → List ℕ
filled place lead [] = []
filled place lead (c ∷ cs) = piece_text place lead c ++ filled place lead cs

-- ---- the places and leads that it can show

unfoldable pub is_empty : List ℕ → Bool
is_empty [] = true
is_empty (c ∷ cs) = false

-- the byte c stands in a list
unfoldable pub has : ℕ → List ℕ → Bool
has c [] = false
has c (x ∷ xs) = eqb x c || has c xs

-- the largest lead: a pattern without the lead's mark has none but 0
unfoldable pub most_lead_of : List ℕ → ℕ
most_lead_of pattern = cond (has lead_mark pattern) most_lead 0

-- the pattern, if there is one, has a sentence for this place and this lead
unfoldable pub shows : List ℕ → ℕ → ℕ → Bool
shows pattern place lead = not (is_empty pattern) && leb place most_place && leb lead (most_lead_of pattern)
