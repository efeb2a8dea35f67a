-- Weights in range: document 02's refusal 14, a weight above the greatest, N.
use Rattle.std.specs.Prelude.{Bool, List, ◌≡◌, ℕ, ◌<◌, ◌≤◌, ltb, length, replicate}
use Rattle.lists.specs.Lists.{num}
use Rattle.lists.specs.Places.{first}

-- 64 weights from 0 to N
pub record HasWeights (N : ℕ) (weights : List ℕ) : Type 0 where
  pub count : length weights ≡ 64
  pub each : (t : ℕ) → t < 64 → num weights t ≤ N

-- one weight at each of the 64 places
unfoldable pub throughout : ℕ → List ℕ
throughout weight = replicate 64 weight

abbrev pub bad_weight : ℕ → List ℕ → ℕ → Bool
bad_weight N weights t = ltb N (num weights t)

-- the lowest place of a weight above N, else the count of weights
unfoldable pub first_bad_weight : ℕ → List ℕ → ℕ
first_bad_weight N weights = first (bad_weight N weights) (length weights)
