-- One byte of a pattern: its kind, and that it takes no more bytes than there are.
use mathlib.Core.Path.{◌≡◌, refl}
use mathlib.Core.Bool.{Bool, true, false, cond}
use mathlib.Core.List.{List, [], ◌∷◌}
use Prim.Native.Nat.{ℕ, ◌+◌, ◌-◌, ◌*◌, ◌≤◌}
use native.Mathlib.Omega.{arith}
use borrow.Author.Tests.{eqb-true, ne_eqb}
use lib.Dec.{eqb}
use lib.ListN.{length}
use Rattle.sentence.specs.Patterns.{place_mark, lead_mark, most_place, most_lead}
use Rattle.sentence.specs.Reading.{Scanned, may_follow, one_more, scan_from, starts_with, piece}

-- a byte of a pattern is the place's mark, the lead's, or text
pub data Kind (p : ℕ) : Type 0 where
  place : eqb p place_mark ≡ true → eqb p lead_mark ≡ false → Kind p
  lead : eqb p place_mark ≡ false → eqb p lead_mark ≡ true → Kind p
  text : eqb p place_mark ≡ false → eqb p lead_mark ≡ false → Kind p

pub kind : (p : ℕ) → Kind p
kind p = by (eqb p place_mark) refl (eqb p lead_mark) refl
  where
    by : (s : Bool) → eqb p place_mark ≡ s → (t : Bool) → eqb p lead_mark ≡ t → Kind p
    by true e t f = place e (ne_eqb p lead_mark (λ q. omega (arith, eqb-true p place_mark e)))
    by false e true f = lead e f
    by false e false f = text e f

-- ---- how many bytes are taken

pub scan_inside : (limit : ℕ) (begun : Bool) (v : ℕ) (bytes : List ℕ) → (scan_from limit begun v bytes).count ≤ length bytes
unfolding scan_from
scan_inside limit begun v [] = omega arith
scan_inside limit begun v (c ∷ cs) = by (may_follow limit begun v c) (scan_inside limit true (10 * v + (c - 48)) cs)
  where
    next : Scanned
    next = scan_from limit true (10 * v + (c - 48)) cs

    by : (t : Bool) → next.count ≤ length cs → (cond t (one_more next) (record { count = 0; value = v })).count ≤ length (c ∷ cs)
    by true h = omega arith
    by false h = omega arith

byte_inside : (p : ℕ) (bytes : List ℕ) → cond (starts_with p bytes) 1 0 ≤ length bytes
unfolding starts_with
byte_inside p [] = omega arith
byte_inside p (c ∷ bytes) = by (eqb c p)
  where
    by : (t : Bool) → cond t 1 0 ≤ length (c ∷ bytes)
    by true = omega arith
    by false = omega arith

pub piece_inside : (p : ℕ) (bytes : List ℕ) → (piece p bytes).count ≤ length bytes
unfolding piece
piece_inside p bytes = by (kind p)
  where
    by : Kind p → (piece p bytes).count ≤ length bytes
    by (place e f) = rw e (scan_inside most_place false 0 bytes)
    by (lead e f) = rw (e, f) (scan_inside most_lead false 0 bytes)
    by (text e f) = rw (e, f) (byte_inside p bytes)
