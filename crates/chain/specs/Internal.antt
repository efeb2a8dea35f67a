-- What only private contracts need: how far a row of places goes on by itself, and a row set out again and again.
use Rattle.std.specs.Prelude.{◌≡◌, List, ℕ, ◌≤◌, ◌%◌}
use Rattle.lists.specs.Lists.{tab, num}

-- n places are whole rounds of b, and no more than a row of eight
pub record WholeRounds (b n : ℕ) : Type 0 where
  pub whole : n % b ≡ 0
  pub some : 1 ≤ n
  pub inside : n ≤ 8

-- count numbers: the first step of the row, again and again
unfoldable pub again : ℕ → List ℕ → ℕ → List ℕ
again step row count = tab (λ i. num row (i % step)) count
