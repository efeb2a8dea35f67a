-- Patterns and their texts: what follows a mark, and where a text shows its place and its lead.
use mathlib.Core.Path.{◌≡◌, refl, ap₂}
use mathlib.Core.Bool.{true, false, cond, not, and-eq-true_iff}
use mathlib.Core.List.{List, [], ◌∷◌, ◌++◌}
use Prim.Native.Nat.{ℕ}
use native.Mathlib.Omega.{arith}
use borrow.Author.Tests.{eqb-true, ne_eqb, not-true}
use lib.Dec.{eqb}
use lib.ListN.{length}
use Rattle.text.specs.Decimal.{is_digit, decimal}
use Rattle.sentence.specs.Patterns.{place_mark, lead_mark, piece_text, filled, has}
use Rattle.sentence.specs.Condition.{is_mark, ends_number}
use Rattle.sentence.proofs.Pieces.{Kind, kind}
use Rattle.sentence.proofs.Marks.{Pattern, or_parts}
use Rattle.sentence_laws.proofs.Leading.{front}
use Rattle.sentence_laws.proofs.Scanning.{plain}
use Rattle.sentence_laws.proofs.PieceTexts.{Ends}
use Rattle.sentence.specs.Reading.{Match}

-- ---- marks

no_mark : (p : ℕ) → is_mark p ≡ false → (eqb p place_mark ≡ false) × (eqb p lead_mark ≡ false)
unfolding is_mark
no_mark p e = or_parts (eqb p place_mark) (eqb p lead_mark) e

-- a byte that is no mark stands for itself
pub text_byte : (q l p : ℕ) → is_mark p ≡ false → piece_text q l p ≡ p ∷ []
unfolding piece_text
text_byte q l p e = let n = no_mark p e in rw (n.0, n.1)

-- ---- what follows a mark

plain_filled : (q l : ℕ) (ps : List ℕ) → ends_number ps ≡ true → plain (filled q l ps) ≡ true
unfolding plain filled ends_number
plain_filled q l [] e = refl
plain_filled q l (p ∷ ps) e =
    let both = (and-eq-true_iff (not (is_digit p)) (not (is_mark p))).0 e in
    rw (text_byte q l p (not-true (is_mark p) both.1)) both.0

pub filled_ends : (q l p : ℕ) (ps : List ℕ) → Pattern p ps → Ends p (filled q l ps)
filled_ends q l p ps parts m = plain_filled q l ps (parts.ends m)

-- ---- where the place and the lead are shown

-- two texts that can differ only at a mark, of a pattern without it
filled_no_mark : (mark q l r k : ℕ) → ((p : ℕ) → eqb p mark ≡ false → piece_text q l p ≡ piece_text r k p) → (ps : List ℕ) → has mark ps ≡ false
    → filled q l ps ≡ filled r k ps
unfolding filled has
filled_no_mark mark q l r k same [] e = refl
filled_no_mark mark q l r k same (p ∷ ps) e =
    let (other, later) = or_parts (eqb p mark) (has mark ps) e in
    ap₂ (λ (x y : List ℕ). x ++ y) (same p other) (filled_no_mark mark q l r k same ps later)

filled_no_place : (q r l : ℕ) (ps : List ℕ) → has place_mark ps ≡ false → filled q l ps ≡ filled r l ps
unfolding piece_text
filled_no_place q r l = filled_no_mark place_mark q l r l (λ p e. rw e)

filled_no_lead : (q l k : ℕ) (ps : List ℕ) → has lead_mark ps ≡ false → filled q l ps ≡ filled q k ps
unfolding piece_text
filled_no_lead q l k = filled_no_mark lead_mark q l q k (λ p e. rw e)

-- a number at the first byte changes nothing in the rest's text
pub rest_same : (p v : ℕ) (ps : List ℕ) (m : Match) → Pattern p ps
    → filled (cond (eqb p place_mark) v m.place) (cond (eqb p lead_mark) v m.lead) ps ≡ filled m.place m.lead ps
unfolding is_mark
rest_same p v ps m parts = by (kind p)
  where
    by : Kind p → filled (cond (eqb p place_mark) v m.place) (cond (eqb p lead_mark) v m.lead) ps ≡ filled m.place m.lead ps
    by (Kind.place e f) =
        let same : p ≡ place_mark = eqb-true p place_mark e in
        let none : has place_mark ps ≡ false = rw same at (parts.once (rw e)) in
        rw (e, f) (filled_no_place v m.place m.lead ps none)
    by (Kind.lead e f) =
        let same : p ≡ lead_mark = eqb-true p lead_mark f in
        let none : has lead_mark ps ≡ false = rw same at (parts.once (rw (e, f))) in
        rw (e, f) (filled_no_lead m.place v m.lead ps none)
    by (Kind.text e f) = rw (e, f)

-- ---- a byte of a pattern stands for some bytes

number_some : (n : ℕ) → eqb (length (decimal n)) 0 ≡ false
number_some n = let f = front n in rw f.whole (ne_eqb (length (f.first ∷ f.after)) 0 (λ h. omega arith))

pub text_some : (q l p : ℕ) → eqb (length (piece_text q l p)) 0 ≡ false
unfolding piece_text
text_some q l p = by (kind p)
  where
    by : Kind p → eqb (length (piece_text q l p)) 0 ≡ false
    by (Kind.place e f) = rw e (number_some q)
    by (Kind.lead e f) = rw (e, f) (number_some l)
    by (Kind.text e f) = rw (e, f)
