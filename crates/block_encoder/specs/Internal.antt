-- What only private contracts need: the symbols as far as some characters go.
use Rattle.std.specs.Prelude.{List, ℕ, length}
use Rattle.lists.specs.Lists.{tab}
use Rattle.lists.specs.Sums.{total}
use Rattle.chain.specs.Chain.{value_at}

-- those of the first n characters
unfoldable pub part_symbols : List ℕ → ℕ → List ℕ
part_symbols codes n = tab (λ t. total n (value_at (length codes) codes t)) 64
