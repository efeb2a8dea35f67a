-- The laws of a block's energies: document 02, order 13. Each is the promise of the function of the same name in src/laws.rt.
use Rattle.std.specs.Prelude.{List, ◌≢◌, ◌≡◌, ℕ, ◌*◌, ◌<◌, ◌≤◌, ℤ, nat_abs, Ok}
use Rattle.lists.specs.Lists.{num}
use Rattle.walsh.specs.Words.{corr}
use Rattle.walsh.specs.Energy.{square, energy}
use Rattle.decision.specs.Decision.{decision}
use Rattle.decision.specs.declared.Character.{Character}
use Rattle.block_decoder.specs.Decoding.{symbols_of, count_in, weighted_at}
use Rattle.energy.specs.Energies.{energy_at, total_of, heard_energies}

-- For every block and character, the squares of the 64 correlations add up to 64 times the sum of the squared weights; so where an entry
-- answers with a total, each of the b sums beside it equals that.
pub record Energy : Type 0 where
  pub sum : (b : ℕ) (tones weights : List ℕ) (q : ℕ) → energy_at b tones weights q ≡ total_of tones weights
  pub told : (N b : ℕ) (tones weights : List ℕ) (n : ℕ) → (heard_energies N b tones weights).answer ≡ Ok n
      → (q : ℕ) → q < b → num (heard_energies N b tones weights).sums q ≡ n

-- Word w is the only best one for the correlations r, and d is decided for it. Leads are even, so that one above 0 is at least 2.
pub record OnlyBest (r : ℕ → ℤ) (d : Character) (w : ℕ) : Type 0 where
  pub others : (k : ℕ) → k < 64 → k ≢ w → nat_abs (r k) < nat_abs (r w)
  pub decided : d.word ≡ w
  pub lead : 2 ≤ d.lead

-- If twice the square of one magnitude exceeds the total, its word is the only best one: for any counts, and for each character of a block.
pub record Majority : Type 0 where
  pub counts : (h : ℕ → ℤ) (w : ℕ) → w < 64 → 64 * energy h < 2 * square (corr h w) → OnlyBest (corr h) (decision (corr h)) w
  pub block : (b : ℕ) (tones weights : List ℕ) (q w : ℕ) → w < 64
      → total_of tones weights < 2 * square (corr (count_in b (symbols_of tones) weights q) w)
      → OnlyBest (corr (count_in b (symbols_of tones) weights q)) (weighted_at b tones weights q) w
