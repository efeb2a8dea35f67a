-- A number within limits, by the tests and as a number.
use mathlib.Core.Path.{◌≡◌, refl}
use mathlib.Core.Bool.{Bool, true, false, ◌&&◌}
use Prim.Native.Nat.{ℕ, ◌<◌, ◌≤◌, ◌%◌, ◌^◌}
use native.Mathlib.Omega.{arith}
use borrow.Author.Tests.{leb-true, le-leb, lt-leb}
use lib.Dec.{leb}
use Rattle.refusal.specs.Checks.{within, is_mode, is_lead}

module _ (low high n : ℕ) where
  pub within_rest : low ≤ n → leb n high ≡ within low high n
  within_rest h = rw (le-leb low n h)

  pub within_true : low ≤ n → n ≤ high → within low high n ≡ true
  within_true p q = rw (le-leb low n p, le-leb n high q)

  pub below_low : n < low → within low high n ≡ false
  below_low h = rw (lt-leb low n h)

  pub above_high : high < n → within low high n ≡ false
  above_high h = rw (lt-leb n high h) (by (leb low n))
    where
      by : (s : Bool) → s && false ≡ false
      by true = refl
      by false = refl

  pub within_range : within low high n ≡ true → (low ≤ n) × (n ≤ high)
  within_range e = by (leb low n) refl (leb n high) refl e
    where
      by : (s : Bool) → leb low n ≡ s → (t : Bool) → leb n high ≡ t → s && t ≡ true → (low ≤ n) × (n ≤ high)
      by true p true q e = (leb-true low n p, leb-true n high q)
      by true p false q e = let z : ◌≡◌ {A = ℕ} 0 1 = cc in absurd (omega arith)
      by false p t q e = let z : ◌≡◌ {A = ℕ} 0 1 = cc in absurd (omega arith)

-- ---- settings

pub mode_range : (b : ℕ) → is_mode b ≡ true → (1 ≤ b) × (b ≤ 8)
mode_range b e = within_range 1 8 b e

pub mode_tones : (b : ℕ) → is_mode b ≡ true → 2 ^ (b % 16) ≡ 2 ^ b
mode_tones b e =
    let small : b ≤ 8 = (mode_range b e).1 in
    let same : b % 16 ≡ b = omega arith in
    rw same

pub lead_range : (m : ℕ) → is_lead m ≡ true → (1 ≤ m) × (m ≤ 64)
lead_range m e = within_range 1 64 m e
