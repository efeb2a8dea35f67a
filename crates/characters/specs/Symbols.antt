-- The decisions on a block's characters, and their energies, by its symbols, none of which is missing, a weight for each, and the values of the
-- places in a symbol.
use Rattle.std.specs.Prelude.{Bool, cond, not, List, [], ℕ, ◌+◌, ◌%◌, min, ltb, eqb, ℤ, pos}
use Rattle.std.specs.Int.Bits.{bit_and}
use Rattle.lists.specs.Lists.{tab, num}
use Rattle.lists.specs.Places.{first}
use Rattle.refusal.specs.Checks.{is_mode}
use Rattle.walsh.specs.Words.{signed, corr, turned}
use Rattle.walsh.specs.Energy.{energy}
use Rattle.decision.specs.Decision.{decision}
use Rattle.decision.specs.declared.Character.{Character}
use Rattle.chain.specs.Chain.{key_bit}

-- whether a symbol has the bit of this value
unfoldable pub has_value : ℕ → ℕ → Bool
has_value symbol value = not (eqb (bit_and symbol value) 0)

-- what symbol t counts for character q: its weight, of which the lowest four bits count, with the sign of its bit after XOR with the key bit
unfoldable pub symbol_count : List ℕ → List ℕ → List ℕ → ℕ → ℕ → ℤ
symbol_count values symbols weights q t = signed (turned (key_bit q t) (has_value (num symbols t) (num values (q + t)))) (pos (num weights t % 16))

unfoldable pub symbol_character : List ℕ → List ℕ → List ℕ → ℕ → Character
symbol_character values symbols weights q = decision (corr (symbol_count values symbols weights q))

-- of b characters so many are decided: up to the first whose lead is under m, and that one too
unfoldable pub reached : ℕ → ℕ → (ℕ → Character) → ℕ
reached b m f = min b (first (λ q. ltb (f q).lead m) b + 1)

-- these; there are none without a mode
unfoldable pub symbol_characters : ℕ → ℕ → List ℕ → List ℕ → List ℕ → List Character
symbol_characters b m values symbols weights =
    cond (is_mode b) (tab (symbol_character values symbols weights) (reached b m (symbol_character values symbols weights))) []

-- the sum of the squares of the correlations that the decision on character q is by
unfoldable pub symbol_energy : List ℕ → List ℕ → List ℕ → ℕ → ℕ
symbol_energy values symbols weights q = energy (corr (symbol_count values symbols weights q))

unfoldable pub symbol_energies : ℕ → List ℕ → List ℕ → List ℕ → List ℕ
symbol_energies b values symbols weights = cond (is_mode b) (tab (symbol_energy values symbols weights) b) []
