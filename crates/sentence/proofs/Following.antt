-- One more digit of a number: what is known of it.
use mathlib.Core.Path.{◌≡◌}
use mathlib.Core.Bool.{Bool, true, false, not, ◌&&◌, and-eq-true_iff}
use Prim.Native.Nat.{ℕ, ◌+◌, ◌-◌, ◌*◌, ◌≤◌}
use borrow.Author.Tests.{leb-true, le-leb, not-true}
use lib.Dec.{leb, eqb}
use Rattle.text.specs.Decimal.{is_digit}
use Rattle.sentence.specs.Reading.{may_follow}

pub record Follows (limit : ℕ) (begun : Bool) (v c : ℕ) : Type 0 where
  pub digit : is_digit c ≡ true
  pub fits : 10 * v + (c - 48) ≤ limit
  pub no_zero : begun && eqb v 0 ≡ false

module _ (limit : ℕ) (begun : Bool) (v c : ℕ) where
  pub follows : may_follow limit begun v c ≡ true → Follows limit begun v c
  unfolding may_follow
  follows e =
      let p = (and-eq-true_iff (is_digit c && leb (10 * v + (c - 48)) limit) (not (begun && eqb v 0))).0 e in
      let q = (and-eq-true_iff (is_digit c) (leb (10 * v + (c - 48)) limit)).0 p.0 in
      record { digit = q.0; fits = leb-true _ _ q.1; no_zero = not-true _ p.1 }

  pub may_follow_lem : Follows limit begun v c → may_follow limit begun v c ≡ true
  unfolding may_follow
  may_follow_lem f = rw (f.digit, le-leb (10 * v + (c - 48)) limit f.fits, f.no_zero)

  pub no_digit : is_digit c ≡ false → may_follow limit begun v c ≡ false
  unfolding may_follow
  no_digit e = rw e
