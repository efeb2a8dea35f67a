-- Weights within their limit, as the test finds them and as numbers; and one weight throughout.
use mathlib.Core.Path.{◌≡◌}
use mathlib.Core.List.{List}
use Prim.Native.Nat.{ℕ, ◌<◌, ◌≤◌}
use native.Mathlib.Omega.{arith}
use borrow.Author.Tests.{le-ltb, ltb-false}
use Rattle.std.proofs.Common.{ltb, position}
use lib.ListN.{length, length-replicate, get_or-replicate}
use Rattle.lists.specs.Lists.{num}
use Rattle.lists.specs.Found.{found}
use Rattle.lists.proofs.Places.{first_is, first_none}
use Rattle.lists.proofs.Found.{position_found}
use Rattle.weight_range.specs.Range.{HasWeights, throughout, bad_weight, first_bad_weight}

module _ (N : ℕ) (weights : List ℕ) where
  pub weights_in_range : HasWeights N weights → 64 ≤ first_bad_weight N weights
  unfolding first_bad_weight
  weights_in_range h =
      omega (
        arith,
        h.count,
        first_none (bad_weight N weights) (length weights) (λ t l. le-ltb N (num weights t) (h.each t (omega (arith, h.count)))),
      )

  pub in_range_weights : length weights ≡ 64 → 64 ≤ first_bad_weight N weights → HasWeights N weights
  unfolding first_bad_weight
  in_range_weights n h = record {
    count = n;
    each = λ t l. ltb-false N (num weights t) ((first_is (bad_weight N weights) (length weights)).lowest t (omega arith));
  }

  -- a greater limit
  pub fewer_weights : (M : ℕ) → N ≤ M → HasWeights N weights → HasWeights M weights
  fewer_weights M l h = record { count = h.count; each = λ t g. omega (arith, h.each t g) }

-- ---- one weight throughout

pub weight_throughout : (w t : ℕ) → t < 64 → num (throughout w) t ≡ w
unfolding throughout
weight_throughout w t l = get_or-replicate 64 t w 0 l

pub has_throughout : (w N : ℕ) → w ≤ N → HasWeights N (throughout w)
unfolding throughout
has_throughout w N h = record { count = length-replicate 64 w; each = λ t l. omega (arith, get_or-replicate 64 t w 0 l) }

-- ---- the library's search

pub weight_found : (N : ℕ) (weights : List ℕ) → position (λ w. ltb N w) weights ≡ found (length weights) (first_bad_weight N weights)
unfolding first_bad_weight
weight_found N weights = position_found (λ w. ltb N w) weights
