-- A rule of a table: a test that is computed once over all entries holds at each place.
use mathlib.Core.Path.{◌≡◌, subst}
use mathlib.Core.Bool.{Bool, true, false, ◌&&◌}
use mathlib.Core.List.{List, [], ◌∷◌}
use Prim.Native.Nat.{ℕ, zero, suc, ◌+◌, ◌<◌}
use native.Mathlib.Omega.{arith}
use lib.Dec.{T}
use lib.ListN.{length, get_or}

-- the test holds at each entry and its place, counted from i
abbrev pub every_at : (ℕ → ℕ → Bool) → ℕ → List ℕ → Bool
every_at test i [] = true
every_at test i (x ∷ xs) = test i x && every_at test (suc i) xs

both : (a b : Bool) → T (a && b) → T a × T b
both true b t = (tt, t)
both false b t = absurd t

each_from : (test : ℕ → ℕ → Bool) (xs : List ℕ) (i : ℕ) → T (every_at test i xs) → (k : ℕ) → k < length xs → T (test (i + k) (get_or xs k 0))
each_from test [] i t k h = absurd (omega arith)
each_from test (x ∷ xs) i t zero h =
    let e : i ≡ i + 0 = omega arith in
    subst (λ (m : ℕ). T (test m x)) e (both (test i x) (every_at test (suc i) xs) t).0
each_from test (x ∷ xs) i t (suc k) h =
    let e : suc i + k ≡ i + suc k = omega arith in
    subst (λ (m : ℕ). T (test m (get_or xs k 0))) e (each_from test xs (suc i) (both (test i x) (every_at test (suc i) xs) t).1 k (omega arith))

pub every_entry : (test : ℕ → ℕ → Bool) (xs : List ℕ) → T (every_at test 0 xs) → (k : ℕ) → k < length xs → T (test k (get_or xs k 0))
every_entry test xs t k h =
    let e : 0 + k ≡ k = omega arith in
    subst (λ (m : ℕ). T (test m (get_or xs k 0))) e (each_from test xs 0 t k h)
