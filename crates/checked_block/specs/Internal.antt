-- What only private contracts need: the symbols and the weights that tones are heard by.
use Rattle.std.specs.Prelude.{List, ℕ, ◌%◌, replicate}
use Rattle.lists.specs.Lists.{tab, num, over}
use Rattle.chain.specs.Tables.{symbol_of}
use Rattle.checked_block.specs.Checked.{weight_below}

-- 64 symbols: those of the first n tones by their lowest eight bits, and 0 after them
unfoldable pub symbols_to : List ℕ → ℕ → List ℕ
symbols_to tones n = over (tab (λ t. symbol_of (num tones t % 256)) n) (replicate 64 0)

-- what the tones count
unfoldable pub weights_below : ℕ → List ℕ → List ℕ
weights_below limit tones = tab (λ t. weight_below limit (num tones t)) 64
