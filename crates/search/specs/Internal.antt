-- What only private contracts need: whether every character is clear, by the values of places, a block's symbols and its weights.
use Rattle.std.specs.Prelude.{Bool, List, ℕ, ltb, leb}
use Rattle.lists.specs.Places.{first}
use Rattle.characters.specs.Symbols.{symbol_character}

-- whether the lead of character q is under m
abbrev pub unclear_by : ℕ → List ℕ → List ℕ → List ℕ → ℕ → Bool
unclear_by m values symbols weights q = ltb (symbol_character values symbols weights q).lead m

-- whether that of none of the b characters is
unfoldable pub clear_by : ℕ → ℕ → List ℕ → List ℕ → List ℕ → Bool
clear_by b m values symbols weights = leb b (first (unclear_by m values symbols weights) b)
