-- Each answer of the functions that write a sentence, over plain variables.
use mathlib.Core.Path.{◌≡◌, refl, ◌∙◌, ap}
use mathlib.Core.Bool.{Bool, true, false, not, ◌&&◌, ◌||◌, and-false}
use mathlib.Core.List.{List, [], ◌∷◌}
use Prim.Native.Nat.{ℕ, ◌<◌, ◌≤◌}
use borrow.Author.Tests.{le-leb, lt-leb, lt-ltb, le-ltb}
use lib.Dec.{leb, eqb}
use lib.ListN.{length}
use Rattle.std.specs.List.{list_any}
use Rattle.lists.specs.Lists.{over}
use Rattle.refusal.specs.Refused.{Answered, refused_at}
use Rattle.sentence.specs.Patterns.{most_place, filled, is_empty, has, most_lead_of, shows}
use Rattle.sentence.specs.Writing.{write_pattern, text_into, pattern_into}
use Rattle.std.proofs.Common.{nat_eq, Ok, Err}
use Rattle.refusal.specs.declared.Reason.{Reason}

-- the library's search of a list is that of the pattern
pub contains_has : (c : ℕ) (ps : List ℕ) → list_any (λ y. nat_eq y c) ps ≡ has c ps
unfolding has
contains_has c [] = refl
contains_has c (p ∷ ps) = ap (λ (t : Bool). eqb p c || t) (contains_has c ps)

-- ---- answers

module _ (ps : List ℕ) (place lead : ℕ) (out : List ℕ) where
  -- what is answered, and what is left in the output
  abbrev pub Writes : Answered ℕ → List ℕ → Type 0
  Writes w after = (w ≡ write_pattern ps place lead (length out)) × (after ≡ pattern_into ps place lead out)

  -- the output is by the answer
  writes : (w : Answered ℕ) (after : List ℕ) → w ≡ write_pattern ps place lead (length out) → after ≡ text_into w (filled place lead ps) out → Writes w after
  unfolding pattern_into
  writes w after e f = (e, f ∙ ap (λ (x : Answered ℕ). text_into x (filled place lead ps) out) e)

  unknown : shows ps place lead ≡ false → Writes (Err (refused_at Reason.Sentence 0)) out
  unfolding write_pattern text_into
  unknown e = writes (Err (refused_at Reason.Sentence 0)) out (rw e) refl

  pub no_pattern : ps ≡ [] → Writes (Err (refused_at Reason.Sentence 0)) out
  unfolding shows is_empty
  no_pattern e = unknown (rw e)

  pub place_above : most_place < place → Writes (Err (refused_at Reason.Sentence 0)) out
  unfolding shows
  place_above h = unknown (rw (lt-leb place most_place h, and-false (not (is_empty ps))))

  pub lead_above : most_lead_of ps < lead → Writes (Err (refused_at Reason.Sentence 0)) out
  unfolding shows
  lead_above h = unknown (rw (lt-leb lead (most_lead_of ps) h, and-false (not (is_empty ps) && leb place most_place)))

  module _ (some : is_empty ps ≡ false) (low-place : place ≤ most_place) (low-lead : lead ≤ most_lead_of ps) where
    known : shows ps place lead ≡ true
    unfolding shows
    known = rw (some, le-leb place most_place low-place, le-leb lead (most_lead_of ps) low-lead)

    pub no_room : length out < length (filled place lead ps) → Writes (Err (refused_at Reason.Room 0)) out
    unfolding write_pattern text_into
    no_room h = writes (Err (refused_at Reason.Room 0)) out (rw (known, lt-ltb (length out) (length (filled place lead ps)) h)) refl

    pub room : length (filled place lead ps) ≤ length out → (n : ℕ) (after : List ℕ) → n ≡ length (filled place lead ps)
        → after ≡ over (filled place lead ps) out → Writes (Ok n) after
    unfolding write_pattern text_into
    room h n after e f = writes (Ok n) after (ap Ok e ∙ (rw (known, le-ltb (length out) (length (filled place lead ps)) h))) f
