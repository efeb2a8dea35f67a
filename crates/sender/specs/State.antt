-- How the bytes of a sender hold the queues: 150 places of 10 bytes, the counts of 30 depots, the count of filled places, the turn.
use Rattle.std.specs.Prelude.{◌≡◌, cond, List, [], ◌∷◌, ℕ, ◌+◌, ◌*◌, ◌<◌, min, eqb, length}
use Rattle.lists.specs.Lists.{tab, num}
use Rattle.lists.specs.Sums.{total}
use Rattle.sender.specs.Queues.{Block, Queues, waiting}

-- a waiting block with its depot
pub record Place : Type 0 where
  pub depot : ℕ
  pub block : Block

-- depot, mode, and as many codes as the mode has, at most 8
unfoldable pub place_in : List ℕ → ℕ → Place
place_in bytes i = record {
  depot = num bytes (10 * i);
  block = record { mode = num bytes (10 * i + 1); codes = tab (λ k. num bytes (10 * i + 2 + k)) (min (num bytes (10 * i + 1)) 8) };
}

-- the blocks of a depot, in the order of the places
unfoldable pub blocks_of : ℕ → List Place → List Block
blocks_of d [] = []
blocks_of d (p ∷ places) = cond (eqb p.depot d) (p.block ∷ blocks_of d places) (blocks_of d places)

-- how many blocks each depot has waiting
abbrev pub counts_in : List ℕ → ℕ → ℕ
counts_in bytes d = num bytes (1500 + d)

-- how many places are filled
abbrev pub filled : List ℕ → ℕ
filled bytes = num bytes 1530

-- the bytes hold these queues; what lies in the places that are not filled is left open
pub record Holds (q : Queues) (bytes : List ℕ) : Type 0 where
  pub size : length bytes ≡ 1532
  pub queues : (d : ℕ) → blocks_of d (tab (place_in bytes) (filled bytes)) ≡ q.at d
  pub counts : (d : ℕ) → d < 30 → counts_in bytes d ≡ waiting q d
  pub places : filled bytes ≡ total 30 (waiting q)
  pub turn : num bytes 1531 ≡ q.turn
