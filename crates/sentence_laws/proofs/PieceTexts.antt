-- One byte of a pattern: the bytes that it takes are a text of it, it takes a whole text of it, and none agrees with more bytes.
use mathlib.Core.Path.{◌≡◌, refl, sym, ap}
use mathlib.Core.Bool.{Bool, true, false, cond}
use mathlib.Core.List.{List, [], ◌∷◌, ◌++◌}
use Prim.Native.Nat.{ℕ, suc, ◌≤◌}
use native.Mathlib.Omega.{arith}
use borrow.Author.Tests.{eqb-true, eq-eqb}
use lib.Dec.{eqb}
use lib.ListN.{length, take}
use Rattle.sentence.specs.Patterns.{place_mark, lead_mark, most_place, most_lead, piece_text}
use Rattle.sentence.specs.Condition.{is_mark}
use Rattle.sentence.specs.Reading.{scan_from, starts_with, piece}
use Rattle.sentence.proofs.Pieces.{Kind, kind}
use Rattle.sentence_laws.proofs.Shared.{shared}
use Rattle.sentence_laws.proofs.Scanning.{plain}
use Rattle.sentence_laws.proofs.Numbers.{number_taken, reach, number_whole, number_most}

-- ---- what a byte of a pattern takes

module _ (p : ℕ) (bytes : List ℕ) where
  -- the number is in range, even if nothing is taken
  pub piece_place : eqb p place_mark ≡ true → (piece p bytes).value ≤ most_place
  unfolding piece
  piece_place e = rw e (number_taken most_place bytes).fits

  pub piece_lead : eqb p lead_mark ≡ true → (piece p bytes).value ≤ most_lead
  unfolding piece
  piece_lead f = by (kind p)
    where
      by : Kind p → (piece p bytes).value ≤ most_lead
      by (Kind.place e g) = absurd cc
      by (Kind.lead e g) = rw (e, f) (number_taken most_lead bytes).fits
      by (Kind.text e g) = absurd cc

byte_taken : (p : ℕ) (bytes : List ℕ) → eqb (cond (starts_with p bytes) 1 0) 0 ≡ false → p ∷ [] ≡ take (cond (starts_with p bytes) 1 0) bytes
unfolding starts_with
byte_taken p [] s = absurd cc
byte_taken p (c ∷ cs) s = by (eqb c p) refl s
  where
    by : (t : Bool) → eqb c p ≡ t → eqb (cond t 1 0) 0 ≡ false → p ∷ [] ≡ take (cond t 1 0) (c ∷ cs)
    by true e s = ap (λ (n : ℕ). n ∷ []) (sym (eqb-true c p e))
    by false e s = absurd cc

-- the bytes taken are the text of it with the number in them
pub piece_taken : (p q l : ℕ) (bytes : List ℕ) → eqb (piece p bytes).count 0 ≡ false → (eqb p place_mark ≡ true → q ≡ (piece p bytes).value)
    → (eqb p lead_mark ≡ true → l ≡ (piece p bytes).value) → piece_text q l p ≡ take (piece p bytes).count bytes
unfolding piece piece_text
piece_taken p q l bytes some at_place at_lead = by (kind p)
  where
    by : Kind p → piece_text q l p ≡ take (piece p bytes).count bytes
    by (Kind.place e f) =
        let v : q ≡ (scan_from most_place false 0 bytes).value = rw e at (at_place e) in
        let s : eqb (scan_from most_place false 0 bytes).count 0 ≡ false = rw e at some in
        rw (e, v) ((number_taken most_place bytes).text s)
    by (Kind.lead e f) =
        let v : l ≡ (scan_from most_lead false 0 bytes).value = rw (e, f) at (at_lead f) in
        let s : eqb (scan_from most_lead false 0 bytes).count 0 ≡ false = rw (e, f) at some in
        rw (e, f, v) ((number_taken most_lead bytes).text s)
    by (Kind.text e f) = rw (e, f) (byte_taken p bytes (rw (e, f) at some))

-- ---- a text of a byte of a pattern, and what follows it

-- after a mark come bytes that do not begin with a digit
abbrev pub Ends : ℕ → List ℕ → Type 0
Ends p rest = is_mark p ≡ true → plain rest ≡ true

-- the number that a byte of a pattern stands for
abbrev pub number_at : ℕ → ℕ → ℕ → ℕ
number_at q l p = cond (eqb p place_mark) q (cond (eqb p lead_mark) l 0)

byte_most : (p : ℕ) (rest : List ℕ) (most : List ℕ → ℕ) → ((bytes : List ℕ) → shared bytes rest ≤ most bytes) → (bytes : List ℕ)
    → shared bytes (p ∷ rest) ≤ reach (cond (starts_with p bytes) 1 0) most bytes
unfolding starts_with shared reach
byte_most p rest most bound [] = omega arith
byte_most p rest most bound (c ∷ cs) = by (eqb c p)
  where
    by : (t : Bool) → cond t (suc (shared cs rest)) 0 ≤ reach (cond t 1 0) most (c ∷ cs)
    by true = omega (arith, bound cs)
    by false = omega arith

module _ (p q l : ℕ) (rest : List ℕ) (ends : Ends p rest) (q-small : q ≤ most_place) (l-small : l ≤ most_lead) where
  ends_place : eqb p place_mark ≡ true → plain rest ≡ true
  unfolding is_mark
  ends_place e = ends (rw e)

  ends_lead : eqb p place_mark ≡ false → eqb p lead_mark ≡ true → plain rest ≡ true
  unfolding is_mark
  ends_lead e f = ends (rw (e, f))

  pub piece_whole : piece p (piece_text q l p ++ rest) ≡ record { count = length (piece_text q l p); value = number_at q l p }
  unfolding piece piece_text starts_with
  piece_whole = by (kind p)
    where
      by : Kind p → piece p (piece_text q l p ++ rest) ≡ record { count = length (piece_text q l p); value = number_at q l p }
      by (Kind.place e f) = rw e (number_whole most_place q rest (ends_place e) q-small)
      by (Kind.lead e f) = rw (e, f) (number_whole most_lead l rest (ends_lead e f) l-small)
      by (Kind.text e f) = rw (e, f, eq-eqb p p refl)

  pub piece_most : (most : List ℕ → ℕ) → ((bytes : List ℕ) → shared bytes rest ≤ most bytes) → (bytes : List ℕ)
      → shared bytes (piece_text q l p ++ rest) ≤ reach (piece p bytes).count most bytes
  unfolding piece piece_text
  piece_most most bound bytes = by (kind p)
    where
      by : Kind p → shared bytes (piece_text q l p ++ rest) ≤ reach (piece p bytes).count most bytes
      by (Kind.place e f) = rw e (number_most most_place q rest (ends_place e) q-small most bound bytes)
      by (Kind.lead e f) = rw (e, f) (number_most most_lead l rest (ends_lead e f) l-small most bound bytes)
      by (Kind.text e f) = rw (e, f) (byte_most p rest most bound bytes)
