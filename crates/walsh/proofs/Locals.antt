-- What a signed local reads back: numbers, sums and differences.
use mathlib.Core.Path.{◌≡◌, ◌∙◌, ap₂}
use mathlib.Core.List.{List, [], ◌∷◌}
use Prim.Native.Nat.{ℕ, zero, suc, ◌+◌, ◌≤◌}
use native.Mathlib.Omega.{arith}
use denote.Array.{each}
use denote.Signed.{SInt}
use denote.Shadow.{shadow}
use lib.IntN.{ℤ, pos, negsuc, nat_abs, ◌+ℤ◌, ◌-ℤ◌}
use lib.Signed.{nat_abs-le}
use mir.Syntax.{w8, w32}
use mir.Val.{Val, SFits, to_z, of_z}
use mir.Facts.{to_z-of_z}
use Rattle.lists.specs.Lists.{at}
use Rattle.lists.proofs.Integers.{abs_add, abs_sub}

-- what a local reads that got z
abbrev pub kept : ℤ → ℤ
kept z = to_z w32 (of_z w32 z)

-- every number of the transform is at most 64 times the magnitude of an i8
pub fits : (z : ℤ) → nat_abs z ≤ 8192 → SFits w32 z
fits (pos n) h = record { sfits = omega arith }
fits (negsuc n) h = record { sfits = omega arith }

pub reads : (z : ℤ) → nat_abs z ≤ 8192 → kept z ≡ z
reads z h = to_z-of_z (fits z h)

-- an element of an array of i8
pub each_within : (xs : List ℤ) (us : List Val) (i : ℕ) → shadow (each ℤ (SInt w8).own_val xs us) → nat_abs (at xs i) ≤ 128
each_within [] us i p = omega arith
each_within (x ∷ xs) [] i p = absurd p
each_within (x ∷ xs) (u ∷ us) zero p = nat_abs-le x p.0.1
each_within (x ∷ xs) (u ∷ us) (suc i) p = each_within xs us i p.1

-- ---- sums and differences

-- a local that got u reads a, which is at most n in magnitude
pub record Holds (u a : ℤ) (n : ℕ) : Type 0 where
  pub value : kept u ≡ a
  pub size : nat_abs a ≤ n

pub holds_itself : (z : ℤ) → nat_abs z ≤ 2048 → Holds z z 2048
holds_itself z h = record { value = reads z (omega arith); size = h }

module _ {u v a b : ℤ} {n : ℕ} (p : Holds u a n) (q : Holds v b n) (small : n ≤ 4096) where
  sum_fits : SFits w32 (kept u +ℤ kept v)
  sum_fits = rw (p.value, q.value) (fits (a +ℤ b) (omega (arith, abs_add a b, p.size, q.size)))

  pub sum_holds : Holds (kept u +ℤ kept v) (a +ℤ b) (n + n)
  sum_holds = record {
    value = to_z-of_z sum_fits ∙ ap₂ (λ (x y : ℤ). x +ℤ y) p.value q.value;
    size = omega (arith, abs_add a b, p.size, q.size);
  }

  difference_fits : SFits w32 (kept u -ℤ kept v)
  difference_fits = rw (p.value, q.value) (fits (a -ℤ b) (omega (arith, abs_sub a b, p.size, q.size)))

  pub difference_holds : Holds (kept u -ℤ kept v) (a -ℤ b) (n + n)
  difference_holds = record {
    value = to_z-of_z difference_fits ∙ ap₂ (λ (x y : ℤ). x -ℤ y) p.value q.value;
    size = omega (arith, abs_sub a b, p.size, q.size);
  }

-- the sum, and the difference in either order
pub record AllFit (u v : ℤ) : Type 0 where
  pub sum : SFits w32 (kept u +ℤ kept v)
  pub less : SFits w32 (kept u -ℤ kept v)
  pub more : SFits w32 (kept v -ℤ kept u)

pub all_fit : {u v a b : ℤ} {n : ℕ} → Holds u a n → Holds v b n → n ≤ 4096 → AllFit u v
all_fit p q small = record { sum = sum_fits p q small; less = difference_fits p q small; more = difference_fits q p small }
