-- The checks for frequencies, as tests and as numbers.
use Rattle.std.proofs.Common.{Option, Some, None, Ok}
use mathlib.Core.Path.{◌≡◌, refl}
use mathlib.Core.Bool.{Bool, true, false, cond, not, ◌&&◌, ◌||◌}
use Prim.Native.Nat.{ℕ, ◌*◌, ◌%◌, ◌^◌, ◌<◌, ◌≤◌}
use native.Mathlib.Omega.{arith}
use borrow.Author.Tests.{leb-true, ltb-true, eqb-true, lt-ltb}
use lib.Dec.{leb, ltb, eqb, lit≤}
use lib.Pow.{pow_pos}
use Rattle.refusal.specs.declared.Reason.{Reason}
use Rattle.refusal.specs.Checks.{is_mode}
use Rattle.refusal.proofs.Limits.{mode_range, mode_tones}
use Rattle.band.specs.Limits.{is_width, is_centre, fault, answered}

-- ---- what an answer of a check says

pub accepted : {A : Type 0} (p : Option Reason) (x y : A) → answered p x ≡ Ok y → (p ≡ None) × (x ≡ y)
accepted None x y e = (refl, cc)
accepted (Some reason) x y e = absurd cc

pub passes : (p : Option Reason) (u : Unit {0}) → answered p (tt {0}) ≡ Ok u → p ≡ None
passes p u e = (accepted p (tt {0}) u e).0

-- the tones of a mode, as their count is computed
pub mode_tones_of : (b n : ℕ) → is_mode b ≡ true → ltb n (2 ^ (b % 16)) ≡ ltb n (2 ^ b)
mode_tones_of b n e = rw (mode_tones b e)

-- ---- no check fails

pub record Passed (b w c : ℕ) : Type 0 where
  pub mode : is_mode b ≡ true
  pub width : is_width w ≡ true
  pub centre : is_centre w c ≡ true

pub passed : (b w c n : ℕ) → fault b w c n ≡ None → Passed b w c
unfolding fault
passed b w c n e = by (is_mode b) refl (is_width w) refl (is_centre w c) refl e
  where
    by : (p : Bool) → is_mode b ≡ p → (q : Bool) → is_width w ≡ q → (r : Bool) → is_centre w c ≡ r
        → cond (not p) (Some Reason.Mode)
        (cond (not q) (Some Reason.Width) (cond (not r) (Some Reason.Centre) (cond (not (ltb n (2 ^ b))) (Some Reason.Tone) None))) ≡ None
        → Passed b w c
    by true m true h true k e = record { mode = m; width = h; centre = k }
    by true m true h false k e = absurd cc
    by true m false h r k e = absurd cc
    by false m q h r k e = absurd cc

pub other_tone : (b w c m n : ℕ) → fault b w c m ≡ None → n < 2 ^ b → fault b w c n ≡ None
unfolding fault
other_tone b w c m n e l =
    let p = passed b w c m e in
    rw (p.mode, p.width, p.centre, lt-ltb n (2 ^ b) l)

pub tone_0 : (b w c n : ℕ) → fault b w c n ≡ None → fault b w c 0 ≡ None
tone_0 b w c n e = other_tone b w c n 0 e (pow_pos b)

pub tone_range : (b w c n : ℕ) → fault b w c n ≡ None → n < 2 ^ b
unfolding fault
tone_range b w c n e =
    let p = passed b w c n e in
    by (ltb n (2 ^ b)) refl (rw (p.mode, p.width, p.centre) at e)
  where
    by : (t : Bool) → ltb n (2 ^ b) ≡ t → cond (not t) (Some Reason.Tone) None ≡ None → n < 2 ^ b
    by true h e = ltb-true n (2 ^ b) h
    by false h e = absurd cc

width_range : (w : ℕ) → is_width w ≡ true → (1 ≤ w) × (w ≤ 2000)
width_range w e = by (eqb w 125) refl (eqb w 250) refl (eqb w 500) refl (eqb w 1000) refl (eqb w 2000) refl e
  where
    is : (v : ℕ) → 1 ≤ v → v ≤ 2000 → eqb w v ≡ true → (1 ≤ w) × (w ≤ 2000)
    is v low high p = rw (eqb-true w v p) (low, high)

    by : (p : Bool) → eqb w 125 ≡ p → (q : Bool) → eqb w 250 ≡ q → (r : Bool) → eqb w 500 ≡ r → (s : Bool) → eqb w 1000 ≡ s
        → (t : Bool) → eqb w 2000 ≡ t → p || q || r || s || t ≡ true → (1 ≤ w) × (w ≤ 2000)
    by true p _ q _ r _ s _ t e = is 125 (lit≤ tt) (lit≤ tt) p
    by false p true q _ r _ s _ t e = is 250 (lit≤ tt) (lit≤ tt) q
    by false p false q true r _ s _ t e = is 500 (lit≤ tt) (lit≤ tt) r
    by false p false q false r true s _ t e = is 1000 (lit≤ tt) (lit≤ tt) s
    by false p false q false r false s true t e = is 2000 (lit≤ tt) (lit≤ tt) t
    by false p false q false r false s false t e = let z : ◌≡◌ {A = ℕ} 0 1 = cc in absurd (omega arith)

centre_range : (w c : ℕ) → is_centre w c ≡ true → (c ≤ 10000) × (w ≤ 2 * c)
centre_range w c e = by (leb c 10000) refl (leb w (2 * c)) refl e
  where
    by : (s : Bool) → leb c 10000 ≡ s → (t : Bool) → leb w (2 * c) ≡ t → s && t ≡ true → (c ≤ 10000) × (w ≤ 2 * c)
    by true p true q e = (leb-true c 10000 p, leb-true w (2 * c) q)
    by true p false q e = let z : ◌≡◌ {A = ℕ} 0 1 = cc in absurd (omega arith)
    by false p t q e = let z : ◌≡◌ {A = ℕ} 0 1 = cc in absurd (omega arith)

-- the limits as numbers
pub record Within (b w c : ℕ) : Type 0 where
  pub mode_low : 1 ≤ b
  pub mode_high : b ≤ 8
  pub width_low : 1 ≤ w
  pub width_high : w ≤ 2000
  pub centre_high : c ≤ 10000
  pub centre_low : w ≤ 2 * c

pub within : (b w c n : ℕ) → fault b w c n ≡ None → Within b w c
within b w c n e =
    let p = passed b w c n e in
    let width = width_range w p.width in
    let centre = centre_range w c p.centre in
    record {
      mode_low = (mode_range b p.mode).0;
      mode_high = (mode_range b p.mode).1;
      width_low = width.0;
      width_high = width.1;
      centre_high = centre.0;
      centre_low = centre.1;
    }
