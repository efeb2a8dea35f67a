-- The place and the lead found by matching are in range, and there is no lead without its mark.
use mathlib.Core.Path.{◌≡◌, refl}
use mathlib.Core.Bool.{Bool, true, false, cond}
use mathlib.Core.List.{List, [], ◌∷◌}
use Prim.Native.Nat.{ℕ, ◌≤◌}
use native.Mathlib.Omega.{arith}
use lib.Dec.{eqb}
use lib.ListN.{drop}
use Rattle.sentence.specs.Patterns.{place_mark, lead_mark, most_place, most_lead, has, most_lead_of}
use Rattle.sentence.specs.Reading.{Scanned, Match, piece, no_match, joined, with_piece, matched}
use Rattle.sentence.proofs.Marks.{match_no_lead}
use Rattle.sentence_laws.proofs.PieceTexts.{piece_place, piece_lead}

record InRange (m : Match) : Type 0 where
  place : m.place ≤ most_place
  lead : m.lead ≤ most_lead

match_range : (ps bytes : List ℕ) → InRange (matched ps bytes)
unfolding matched with_piece
match_range [] bytes = record { place = omega arith; lead = omega arith }
match_range (p ∷ ps) bytes = by (eqb s.count 0) (match_range ps (drop s.count bytes))
  where
    s : Scanned
    s = piece p bytes

    more : Match
    more = matched ps (drop s.count bytes)

    at_place : (t : Bool) → eqb p place_mark ≡ t → more.place ≤ most_place → cond t s.value more.place ≤ most_place
    at_place true e h = piece_place p bytes e
    at_place false e h = h

    at_lead : (t : Bool) → eqb p lead_mark ≡ t → more.lead ≤ most_lead → cond t s.value more.lead ≤ most_lead
    at_lead true e h = piece_lead p bytes e
    at_lead false e h = h

    by : (t : Bool) → InRange more → InRange (cond t no_match (joined p s more))
    by true r = record { place = omega arith; lead = omega arith }
    by false r = record { place = at_place (eqb p place_mark) refl r.place; lead = at_lead (eqb p lead_mark) refl r.lead }

pub matched_place : (ps bytes : List ℕ) → (matched ps bytes).place ≤ most_place
matched_place ps bytes = (match_range ps bytes).place

pub matched_lead : (ps bytes : List ℕ) → (matched ps bytes).lead ≤ most_lead_of ps
unfolding most_lead_of
matched_lead ps bytes = by (has lead_mark ps) refl
  where
    by : (t : Bool) → has lead_mark ps ≡ t → (matched ps bytes).lead ≤ cond t most_lead 0
    by true e = (match_range ps bytes).lead
    by false e = omega (arith, match_no_lead ps bytes e)
