-- What it says that rows are sound: of a pattern, of the row of a number, and of a row apart from others.
use mathlib.Core.Path.{◌≡◌, refl}
use mathlib.Core.Bool.{Bool, true, false, cond, not, ◌&&◌, and-eq-true_iff}
use mathlib.Core.List.{List, [], ◌∷◌}
use Prim.Native.Nat.{ℕ}
use borrow.Author.Tests.{eqb-true, not-true}
use lib.Dec.{eqb}
use Rattle.sentence.specs.Patterns.{is_empty}
use Rattle.sentence.specs.Sentences.{Row, number, pattern_in}
use Rattle.sentence.specs.Condition.{part, is_apart, are_sound}
use Rattle.sentence.proofs.Soundness.{IsRow, First, first}

-- ---- the row of a number that has one

pub row_of : (rows : List Row) (n : ℕ) → are_sound rows ≡ true → is_empty (pattern_in rows n) ≡ false
    → IsRow n (pattern_in rows n)
unfolding pattern_in is_empty
row_of [] n e h = absurd cc
row_of (r ∷ rs) n e h = by (eqb (number r) n) refl h (row_of rs n f.rest)
  where
    f : First r rs
    f = first r rs e

    by : (t : Bool) → eqb (number r) n ≡ t → is_empty (cond t r.pattern (pattern_in rs n)) ≡ false
        → (is_empty (pattern_in rs n) ≡ false → IsRow n (pattern_in rs n))
        → IsRow n (cond t r.pattern (pattern_in rs n))
    by true g k ih = let same : number r ≡ n = eqb-true (number r) n g in rw (← same) f.row
    by false g k ih = ih k

-- ---- a row apart from others

-- its number is not n, and it parts from n's pattern
pub record Apart (r : Row) (n : ℕ) (ps : List ℕ) : Type 0 where
  pub number : eqb (number r) n ≡ false
  pub parts : part r.pattern ps ≡ true

pub apart_from : (r : Row) (rs : List Row) (n : ℕ) → is_apart r rs ≡ true → is_empty (pattern_in rs n) ≡ false → Apart r n (pattern_in rs n)
unfolding is_apart pattern_in is_empty
apart_from r [] n e h = absurd cc
apart_from r (s ∷ rs) n e h = by (eqb (number s) n) refl h (apart_from r rs n a.1)
  where
    a : (not (eqb (number r) (number s)) && part r.pattern s.pattern ≡ true) × (is_apart r rs ≡ true)
    a = (and-eq-true_iff (not (eqb (number r) (number s)) && part r.pattern s.pattern) (is_apart r rs)).0 e

    b : (not (eqb (number r) (number s)) ≡ true) × (part r.pattern s.pattern ≡ true)
    b = (and-eq-true_iff (not (eqb (number r) (number s))) (part r.pattern s.pattern)).0 a.0

    by : (t : Bool) → eqb (number s) n ≡ t → is_empty (cond t s.pattern (pattern_in rs n)) ≡ false
        → (is_empty (pattern_in rs n) ≡ false → Apart r n (pattern_in rs n)) → Apart r n (cond t s.pattern (pattern_in rs n))
    by true f g ih =
        let same : number s ≡ n = eqb-true (number s) n f in
        record { number = rw same at (not-true (eqb (number r) (number s)) b.0); parts = b.1 }
    by false f g ih = ih g
