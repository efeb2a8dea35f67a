-- The loop that moves the places after one up.
use mathlib.Core.Path.{◌≡◌, ◌∙◌}
use mathlib.Core.List.{List}
use Prim.Native.Nat.{ℕ, ◌+◌, ◌*◌, ◌<◌, ◌≤◌}
use native.Mathlib.Decide.{ℕ_discrete}
use native.Mathlib.Omega.{arith}
use lib.ListN.{length, set, length-set}
use lib.Seq.{get_or-set_same, get_or-set_other}
use Rattle.lists.specs.Lists.{num}
use Rattle.sender.specs.Internal.{Removed}

-- as far as byte i
pub record Moving (at count : ℕ) (bytes : List ℕ) (next : List ℕ) (i : ℕ) : Type 0 where
  pub size : length next ≡ 1532
  pub low : 10 * at ≤ i
  pub high : i + 10 ≤ 10 * count
  pub before : (j : ℕ) → j < 10 * at → num next j ≡ num bytes j
  pub moved : (j : ℕ) → 10 * at ≤ j → j < i → num next j ≡ num bytes (j + 10)
  pub rest : (j : ℕ) → i ≤ j → num next j ≡ num bytes j

module _ (at count : ℕ) (bytes : List ℕ) where
  module _ (next : List ℕ) (i : ℕ) (m : Moving at count bytes next i) where
    pub moving_more : i + 10 < 10 * count → i < 1532 → Moving at count bytes (set next i (num next (i + 10))) (i + 1)
    moving_more more inside = record {
      size = length-set next i (num next (i + 10)) ∙ m.size;
      low = omega (arith, m.low);
      high = omega arith;
      before = λ j h. kept j (λ e. omega (arith, m.low)) ∙ m.before j h;
      moved = λ j h k. by j h k (ℕ_discrete j i);
      rest = λ j h. kept j (λ e. omega arith) ∙ m.rest j (omega arith);
    }
      where
        kept : (j : ℕ) → (j ≡ i → ⊥) → num (set next i (num next (i + 10))) j ≡ num next j
        kept j ne = get_or-set_other next i j (num next (i + 10)) 0 ne

        by : (j : ℕ) → 10 * at ≤ j → j < i + 1 → Dec (j ≡ i) → num (set next i (num next (i + 10))) j ≡ num bytes (j + 10)
        by j h k (yes e) = rw e (get_or-set_same next i (num next (i + 10)) 0 (omega (arith, m.size)) ∙ m.rest (i + 10) (omega arith))
        by j h k (no ne) = kept j ne ∙ m.moved j h (omega arith)

    pub moving_end : 10 * count ≤ i + 10 → count ≤ 150 → Removed at count bytes next
    moving_end done few = record {
      size = m.size;
      before = m.before;
      moved = λ j h k. m.moved j h (omega arith);
      beyond = λ j h. m.rest j (omega (arith, m.high));
    }
