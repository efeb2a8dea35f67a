-- The tables that go with the chain: the symbol of each tone, the key bits at each place, and the values of the places in a symbol.
use Rattle.std.specs.Prelude.{cond, List, ℕ, ◌%◌, ◌^◌, eqb}
use Rattle.lists.specs.Lists.{tab}
use Rattle.lists.specs.Places.{first}
use Rattle.lists.specs.Sums.{total}
use Rattle.refusal.specs.Checks.{is_mode}
use Rattle.chain.specs.Chain.{key_bit, gray}

-- the symbol of a tone: the one whose Gray code it is
unfoldable pub symbol_of : ℕ → ℕ
symbol_of g = first (λ s. eqb (gray s) g) 256

-- the key bits at t of the eight characters; bit q is that of character q
unfoldable pub keys_at : ℕ → ℕ
keys_at t = total 8 (λ q. cond (key_bit q t) (2 ^ q) 0)

-- the value of bit i mod b of a symbol; that of character q in symbol t is at i = q + t
unfoldable pub place_value : ℕ → ℕ → ℕ
place_value b i = 2 ^ (i % b)

-- the values that the characters of a block take; all 0 if b is no mode
unfoldable pub place_values : ℕ → List ℕ
place_values b = tab (λ i. cond (is_mode b) (place_value b i) 0) 72
