-- How large the numbers of the transform are, and that its steps are the butterflies.
use mathlib.Core.Path.{◌≡◌, refl, sym, ◌∙◌, ap, ap₂}
use mathlib.Core.List.{List}
use mathlib.Core.Logic.{⊎_elim}
use Prim.Native.Nat.{ℕ, zero, suc, ◌+◌, ◌*◌, ◌<◌, ◌≤◌, ◌/◌}
use native.Mathlib.Decide.{dec_lt}
use native.Mathlib.Nat.{le_trans}
use native.Mathlib.Omega.{arith}
use lib.Dec.{T, leb, leb→le}
use lib.IntN.{ℤ, pos, nat_abs, ◌+ℤ◌, ◌-ℤ◌}
use lib.ListN.{length, get_or-eq_default}
use Rattle.lists.specs.Lists.{tab, at}
use Rattle.lists.proofs.Integers.{abs_add, abs_sub}
use Rattle.lists.proofs.Sums.{abs_sum, total_within}
use Rattle.lists.proofs.Tables.{tab_length, tab_at, is_tab}
use Rattle.walsh.specs.Words.{minus, signed, corr, correlations_of}
use Rattle.walsh.specs.Transform.{butterfly, butterflies}
use Rattle.walsh.specs.Internal.{step_of, Within}
use Rattle.walsh.proofs.Signed.{abs_signed}
use Rattle.walsh.proofs.Butterflies.{butterfly_even, butterfly_odd, transform}
use Rattle.walsh.proofs.Signs.{lowest_digit}

pub upto : {b : ℕ} (B : ℕ) {x : List ℤ} → Within b x → T (leb b B) → Within B x
upto {b} B w t = record { within = λ i. le_trans (w.within i) (leb→le b B t) }

-- by whether place i has a sum or a difference
butterfly_cases : (P : ℤ → Type 0) (x : ℕ → ℤ) (i : ℕ) → ((j : ℕ) → i ≡ 2 * j → P (x j +ℤ x (j + 32))) → ((j : ℕ) → i ≡ 2 * j + 1 → P (x (j + 32) -ℤ x j)) → P (butterfly x i)
butterfly_cases P x i f g =
    ⊎_elim
    (λ p.
    let e : i ≡ 2 * (i / 2) = omega arith in
    rw (ap (butterfly x) e ∙ butterfly_even x (i / 2)) (f (i / 2) e))
    (λ p.
    let e : i ≡ 2 * (i / 2) + 1 = omega arith in
    rw (ap (butterfly x) e ∙ butterfly_odd x (i / 2)) (g (i / 2) e))
    (lowest_digit i)

pub tab_within : (b : ℕ) (f : ℕ → ℤ) → ((i : ℕ) → nat_abs (f i) ≤ b) → Within b (tab f 64)
tab_within b f h = record { within = λ i. by i (dec_lt i 64) }
  where
    by : (i : ℕ) → Dec (i < 64) → nat_abs (at (tab f 64) i) ≤ b
    by i (yes l) = rw (tab_at f (pos 0) 64 i l) (h i)
    by i (no n) =
        omega (arith, ap nat_abs (get_or-eq_default (tab f 64) (pos 0) {n = i} (let e : length (tab f 64) ≤ i = omega (arith, tab_length f 64) in e)))

-- a step at most doubles the magnitudes
step_within : {b : ℕ} {x : List ℤ} → Within b x → Within (b + b) (step_of x)
unfolding step_of
step_within {b} {x} w =
    tab_within (b + b) (butterfly (at x)) (λ i.
    butterfly_cases (λ z. nat_abs z ≤ b + b) (at x) i
    (λ j e. omega (arith, abs_add (at x j) (at x (j + 32)), w.within j, w.within (j + 32)))
    (λ j e. omega (arith, abs_sub (at x (j + 32)) (at x j), w.within j, w.within (j + 32))))

pub two_within : {b : ℕ} {x r : List ℤ} → Within b x → r ≡ step_of (step_of x) → Within (b + b + (b + b)) r
two_within w e = rw e (step_within (step_within w))

pub corr_within : (N : ℕ) (h : ℕ → ℤ) (c : ℕ) → ((t : ℕ) → t < 64 → nat_abs (h t) ≤ N) → nat_abs (corr h c) ≤ 64 * N
unfolding corr
corr_within N h c small =
    omega (
      arith,
      abs_sum 64 (λ t. signed (minus c t) (h t)),
      total_within 64 N (λ t. nat_abs (signed (minus c t) (h t))) (λ t l. omega (arith, abs_signed (minus c t) (h t), small t l)),
    )

pub correlations_within : {b : ℕ} (x : List ℤ) → Within b x → Within (64 * b) (correlations_of (at x))
unfolding correlations_of
correlations_within {b} x w = tab_within (64 * b) (corr (at x)) (λ c. corr_within b (at x) c (λ t l. w.within t))

-- ---- six steps

unfoldable pub steps : ℕ → List ℤ → List ℤ
steps zero x = x
steps (suc k) x = step_of (steps k x)

butterfly_ext : (x y : ℕ → ℤ) → ((i : ℕ) → i < 64 → x i ≡ y i) → (i : ℕ) → i < 64 → butterfly x i ≡ butterfly y i
butterfly_ext x y h i l =
    butterfly_cases (λ z. z ≡ butterfly y i) x i
    (λ j e. ap₂ (λ (a b : ℤ). a +ℤ b) (h j (omega arith)) (h (j + 32) (omega arith)) ∙ sym (butterfly_even y j) ∙ ap (butterfly y) (sym e))
    (λ j e. ap₂ (λ (a b : ℤ). a -ℤ b) (h (j + 32) (omega arith)) (h j (omega arith)) ∙ sym (butterfly_odd y j) ∙ ap (butterfly y) (sym e))

steps_butterflies : (k : ℕ) (x : List ℤ) (i : ℕ) → i < 64 → at (steps k x) i ≡ butterflies k (at x) i
unfolding steps step_of butterflies
steps_butterflies zero x i l = refl
steps_butterflies (suc k) x i l =
    tab_at (butterfly (at (steps k x))) (pos 0) 64 i l ∙ butterfly_ext (at (steps k x)) (butterflies k (at x)) (steps_butterflies k x) i l

pub six_steps : (x : List ℤ) → steps 6 x ≡ correlations_of (at x)
unfolding steps step_of correlations_of
six_steps x =
    is_tab (corr (at x)) (pos 0) 64 (steps 6 x) (tab_length _ 64)
    (λ c l. steps_butterflies 6 x c l ∙ transform.six_steps (at x) c l)
