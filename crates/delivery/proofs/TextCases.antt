-- What the codes of clear blocks deliver: an equation for each answer of `delivery`, and what a text that is answered shows.
use mathlib.Core.Path.{◌≡◌, refl, ◌∙◌, ap}
use mathlib.Core.List.{List}
use Prim.Native.Nat.{ℕ, ◌-◌, ◌<◌, ◌≤◌}
use native.Mathlib.Omega.{arith}
use borrow.Author.Tests.{lt-ltb, le-ltb, le-leb, lt-leb, ltb-false, leb-false}
use lib.ListN.{length, take}
use lib.Seq.{length-take-le, get_or-take}
use lib.Dec.{eqb}
use Rattle.lists.specs.Places.{first}
use Rattle.refusal.specs.Refused.{Answered, refused_at}
use Rattle.refusal.proofs.Agreement.{passes}
use Rattle.lists.specs.Found.{found}
use Rattle.lists.proofs.Found.{position_found}
use Rattle.lists.proofs.Places.{first_ext}
use Rattle.delivery.specs.Delivery.{is_zero, text_end, first_zero, delivery}
use Rattle.delivery.proofs.TextEnds.{end_within}
use Rattle.std.proofs.Common.{Ok, Err, position}
use Rattle.refusal.specs.declared.Reason.{Reason}

module _ (limit b : ℕ) (codes : List ℕ) (n : ℕ) (end : n ≡ text_end codes) where
  pub refuses_zero : first (is_zero codes) n < n → delivery limit b codes ≡ Err (refused_at Reason.Zero (first (is_zero codes) n))
  unfolding delivery first_zero
  refuses_zero h = rw (← end) (simp (lt-ltb (first (is_zero codes) n) n h))

  module _ (no_zero : n ≤ first (is_zero codes) n) where
    pub refuses_filling : b ≤ length codes - n → delivery limit b codes ≡ Err (refused_at Reason.Zero n)
    unfolding delivery first_zero
    refuses_filling h = rw (← end) (simp (le-ltb (first (is_zero codes) n) n no_zero, le-leb b (length codes - n) h))

    pub refuses_long : length codes - n < b → limit < n → delivery limit b codes ≡ Err (refused_at Reason.TooLong limit)
    unfolding delivery first_zero
    refuses_long h l = rw (← end) (simp (le-ltb (first (is_zero codes) n) n no_zero, lt-leb b (length codes - n) h, lt-ltb limit n l))

-- the codes are n that are not 0, then fewer than b zeros, and n is within the limit
pub record Delivered (limit b : ℕ) (codes : List ℕ) (n : ℕ) : Type 0 where
  pub end : n ≡ text_end codes
  pub no_zero : n ≤ first (is_zero codes) n
  pub filling : length codes - n < b
  pub fits : n ≤ limit

pub delivers : (limit b : ℕ) (codes : List ℕ) (n : ℕ) → Delivered limit b codes n → delivery limit b codes ≡ Ok n
unfolding delivery first_zero
delivers limit b codes n d =
    rw (← d.end) (simp (le-ltb (first (is_zero codes) n) n d.no_zero, lt-leb b (length codes - n) d.filling, le-ltb limit n d.fits))

-- the zeros before the end, as they are looked for
pub zero_found : (codes : List ℕ) (n : ℕ) → n ≡ text_end codes → position (λ code. eqb code 0) (take n codes) ≡ found n (first (is_zero codes) n)
zero_found codes n end =
    let long : length (take n codes) ≡ n = length-take-le n codes (omega (arith, end_within codes)) in
    position_found (λ code. eqb code 0) (take n codes)
    ∙ ap (λ (k : ℕ). found k (first (is_zero (take n codes)) k)) long
    ∙ ap (found n) (first_ext (is_zero (take n codes)) (is_zero codes) n (λ i l. ap (λ (code : ℕ). eqb code 0) (get_or-take n codes i 0 l)))

same_count : {m n : ℕ} → ◌≡◌ {A = Answered ℕ} (Ok m) (Ok n) → n ≡ m
same_count e = cc

pub text_delivered : (limit b : ℕ) (codes : List ℕ) (n : ℕ) → delivery limit b codes ≡ Ok n → Delivered limit b codes n
unfolding delivery first_zero
text_delivered limit b codes n e =
    let p1 = passes _ _ _ _ e in
    let p2 = passes _ _ _ _ p1.1 in
    let p3 = passes _ _ _ _ p2.1 in
    let same : n ≡ text_end codes = same_count p3.1 in
    rw same record {
      end = refl;
      no_zero = ltb-false _ _ p1.0;
      filling = leb-false _ _ p2.0;
      fits = ltb-false _ _ p3.0;
    }
