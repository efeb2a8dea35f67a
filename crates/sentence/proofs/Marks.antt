-- The marks of a pattern: what its first byte asks of the rest, and that without a mark no number is found.
use mathlib.Core.Path.{◌≡◌, refl, ◌∙◌}
use mathlib.Core.Bool.{Bool, true, false, cond, not, ◌&&◌, ◌||◌, and-eq-true_iff}
use mathlib.Core.List.{List, [], ◌∷◌}
use Prim.Native.Nat.{ℕ}
use borrow.Author.Tests.{not-true}
use lib.Dec.{eqb}
use lib.ListN.{drop}
use Rattle.sentence.specs.Patterns.{place_mark, lead_mark, is_empty, has}
use Rattle.sentence.specs.Condition.{is_mark, ends_number, is_pattern}
use Rattle.sentence.specs.Reading.{Scanned, Match, piece, no_match, joined, with_piece, matched}

-- ---- a pattern's first byte, and the rest

pub record Pattern (p : ℕ) (ps : List ℕ) : Type 0 where
  pub once : is_mark p ≡ true → has p ps ≡ false
  pub ends : is_mark p ≡ true → ends_number ps ≡ true
  pub rest : is_pattern ps ≡ true

pub pattern : (p : ℕ) (ps : List ℕ) → is_pattern (p ∷ ps) ≡ true → Pattern p ps
unfolding is_pattern
pattern p ps e = by (is_mark p) refl e
  where
    by : (t : Bool) → is_mark p ≡ t → cond t (not (has p ps) && ends_number ps && is_pattern ps) (is_pattern ps) ≡ true → Pattern p ps
    by false m h = record {
      once = λ k. (absurd cc);
      ends = λ k. (absurd cc);
      rest = h;
    }
    by true m h =
        let a = (and-eq-true_iff (not (has p ps) && ends_number ps) (is_pattern ps)).0 h in
        let b = (and-eq-true_iff (not (has p ps)) (ends_number ps)).0 a.0 in
        record { once = λ k. not-true (has p ps) b.0; ends = λ k. b.1; rest = a.1 }

-- ---- without its mark a number is 0

pub or_parts : (s t : Bool) → s || t ≡ false → (s ≡ false) × (t ≡ false)
or_parts true t e = absurd cc
or_parts false t e = (refl, e)

-- a number of a match that only its mark changes
module _ (mark : ℕ) (number : Match → ℕ) (none : (t : Bool) → number (record { shared = 0; whole = t; place = 0; lead = 0 }) ≡ 0) where
  module _ (kept : (p : ℕ) (s : Scanned) (m : Match) → eqb p mark ≡ false → number (joined p s m) ≡ number m) where
    no_mark_none : (ps bytes : List ℕ) → has mark ps ≡ false → number (matched ps bytes) ≡ 0
    unfolding matched with_piece has
    no_mark_none [] bytes e = none (is_empty bytes)
    no_mark_none (p ∷ ps) bytes e = by (eqb s.count 0) (no_mark_none ps (drop s.count bytes))
      where
        s : Scanned
        s = piece p bytes

        more : Match
        more = matched ps (drop s.count bytes)

        by : (t : Bool) → (has mark ps ≡ false → number more ≡ 0) → number (cond t no_match (joined p s more)) ≡ 0
        by true r = none false
        by false r = let (other, later) = or_parts (eqb p mark) (has mark ps) e in kept p s more other ∙ r later

pub match_no_place : (ps bytes : List ℕ) → has place_mark ps ≡ false → (matched ps bytes).place ≡ 0
match_no_place = no_mark_none place_mark (λ m. m.place) (λ t. refl) (λ p s m e. rw e)

pub match_no_lead : (ps bytes : List ℕ) → has lead_mark ps ≡ false → (matched ps bytes).lead ≡ 0
match_no_lead = no_mark_none lead_mark (λ m. m.lead) (λ t. refl) (λ p s m e. rw e)
