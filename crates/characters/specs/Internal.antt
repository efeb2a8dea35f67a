-- What only private contracts need: the signs of what symbols count, by the table of the key's bits.
use Rattle.std.specs.Prelude.{Bool, List, ℕ, ◌+◌}
use Rattle.lists.specs.Lists.{num}
use Rattle.walsh.specs.Words.{turned}
use Rattle.chain.specs.Chain.{bit}
use Rattle.characters.specs.Symbols.{has_value}

-- of a symbol for a character whose bit has this value in it, after XOR with a key bit
unfoldable pub sign_by : Bool → ℕ → ℕ → Bool
sign_by k value symbol = turned k (has_value symbol value)

-- of symbol t for character q
unfoldable pub table_sign : List ℕ → List ℕ → List ℕ → ℕ → ℕ → Bool
table_sign keys values symbols q t = sign_by (bit (num keys t) q) (num values (q + t)) (num symbols t)
