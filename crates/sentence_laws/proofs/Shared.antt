-- The longest beginning that two texts share, computed: they share so many bytes, and no more.
use mathlib.Core.Path.{◌≡◌, refl}
use mathlib.Core.Bool.{Bool, true, false, cond}
use mathlib.Core.List.{List, [], ◌∷◌, ◌++◌}
use Prim.Native.Nat.{ℕ, zero, suc, ◌+◌, ◌≤◌}
use native.Mathlib.Omega.{arith}
use borrow.Author.Tests.{eqb-true, eqb-false, eq-eqb}
use lib.Dec.{eqb}
use lib.ListN.{length}
use Rattle.sentence_laws.specs.Meaning.{Share}

-- its length
unfoldable pub shared : List ℕ → List ℕ → ℕ
shared [] ys = 0
shared (x ∷ xs) [] = 0
shared (x ∷ xs) (y ∷ ys) = cond (eqb x y) (suc (shared xs ys)) 0

-- ---- how many bytes are shared

share_none : (x y : List ℕ) → Share 0 x y
share_none x y = record { within = omega arith; within_other = omega arith; same = refl }

share_one : (c d : ℕ) (x y : List ℕ) (n : ℕ) → c ≡ d → Share n x y → Share (suc n) (c ∷ x) (d ∷ y)
share_one c d x y n e s = record { within = omega (arith, s.within); within_other = omega (arith, s.within_other); same = rw (e, s.same) }

pub share : (x y : List ℕ) → Share (shared x y) x y
unfolding shared
share [] y = share_none [] y
share (c ∷ x) [] = share_none (c ∷ x) []
share (c ∷ x) (d ∷ y) = by (eqb c d) refl (share x y)
  where
    by : (t : Bool) → eqb c d ≡ t → Share (shared x y) x y → Share (cond t (suc (shared x y)) 0) (c ∷ x) (d ∷ y)
    by true e s = share_one c d x y (shared x y) (eqb-true c d e) s
    by false e s = share_none (c ∷ x) (d ∷ y)

pub shared_most : (k : ℕ) (x y : List ℕ) → Share k x y → k ≤ shared x y
unfolding shared
shared_most zero x y s = omega arith
shared_most (suc k) [] y s = absurd (omega (arith, s.within))
shared_most (suc k) (c ∷ x) [] s = absurd (omega (arith, s.within_other))
shared_most (suc k) (c ∷ x) (d ∷ y) s = by (eqb c d) refl (shared_most k x y)
  where
    by : (t : Bool) → eqb c d ≡ t → (Share k x y → k ≤ shared x y) → suc k ≤ cond t (suc (shared x y)) 0
    by true e r =
        omega (arith, r (record { within = omega (arith, s.within); within_other = omega (arith, s.within_other); same = cc s.same }))
    by false e r = absurd (eqb-false c d e (cc s.same))

-- ---- joined texts

pub shared_nothing : (x : List ℕ) → shared x [] ≡ 0
unfolding shared
shared_nothing [] = refl
shared_nothing (c ∷ x) = refl

pub shared_after : (a x y : List ℕ) → shared (a ++ x) (a ++ y) ≡ length a + shared x y
unfolding shared
shared_after [] x y = omega arith
shared_after (c ∷ a) x y = rw (eq-eqb c c refl) (omega (arith, shared_after a x y))
