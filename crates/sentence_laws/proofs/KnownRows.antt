-- The refusals that a list of sound rows knows: by its first row, and by those after it.
use mathlib.Core.Path.{◌≡◌, refl}
use mathlib.Core.Bool.{Bool, true, false, not, ◌&&◌, and-eq-true_iff}
use mathlib.Core.List.{List, [], ◌∷◌}
use Prim.Native.Nat.{ℕ, ◌<◌, ◌≤◌}
use native.Mathlib.Omega.{arith}
use borrow.Author.Tests.{leb-true, le-leb, eqb-true, eq-eqb, not-true}
use lib.Dec.{leb, eqb}
use lib.ListN.{length}
use Rattle.refusal.specs.declared.Refusal.{Refusal}
use Rattle.refusal.specs.Refused.{number_of}
use Rattle.sentence.specs.Patterns.{most_place, filled, is_empty, most_lead_of, shows}
use Rattle.sentence.specs.Sentences.{Row, number, pattern_in, is_known_in, sentence_in}
use Rattle.sentence.specs.Condition.{are_sound}
use Rattle.sentence.specs.Reading.{matched, found}
use Rattle.sentence.proofs.Soundness.{First, first}
use Rattle.sentence_laws.proofs.MatchRanges.{matched_place, matched_lead}
use Rattle.sentence.proofs.RowCases.{row_some}
use Rattle.sentence_laws.proofs.SoundRows.{apart_from}

-- what a pattern shows: a place and a lead in its range
pub record Shown (ps : List ℕ) (q l : ℕ) : Type 0 where
  pub some : is_empty ps ≡ false
  pub place : q ≤ most_place
  pub lead : l ≤ most_lead_of ps

module _ (ps : List ℕ) (q l : ℕ) where
  pub shown : shows ps q l ≡ true → Shown ps q l
  unfolding shows
  shown e =
      let a = (and-eq-true_iff (not (is_empty ps) && leb q most_place) (leb l (most_lead_of ps))).0 e in
      let b = (and-eq-true_iff (not (is_empty ps)) (leb q most_place)).0 a.0 in
      record { some = not-true (is_empty ps) b.0; place = leb-true q most_place b.1; lead = leb-true l (most_lead_of ps) a.1 }

  shown_lem : Shown ps q l → shows ps q l ≡ true
  unfolding shows
  shown_lem k = rw (k.some, le-leb q most_place k.place, le-leb l (most_lead_of ps) k.lead)

abbrev pub Known : List Row → Refusal → Type 0
Known rows x = Shown (pattern_in rows (number_of x.reason)) x.place x.lead

module _ (rows : List Row) (x : Refusal) where
  pub known : is_known_in rows x ≡ true → Known rows x
  unfolding is_known_in
  known e = shown (pattern_in rows (number_of x.reason)) x.place x.lead e

  pub is_known_lem : Known rows x → is_known_in rows x ≡ true
  unfolding is_known_in
  is_known_lem k = shown_lem (pattern_in rows (number_of x.reason)) x.place x.lead k

pub none_known : (x : Refusal) → Known [] x → ⊥
unfolding pattern_in is_empty
none_known x k = cc k.some

-- ---- by the first row, or by those after it

module _ (r : Row) (rs : List Row) where
  pub data Where (x : Refusal) : Type 0 where
    here : number r ≡ number_of x.reason → pattern_in (r ∷ rs) (number_of x.reason) ≡ r.pattern → Where x
    later : pattern_in (r ∷ rs) (number_of x.reason) ≡ pattern_in rs (number_of x.reason) → Known rs x → Where x

  pub known_where : (x : Refusal) → Known (r ∷ rs) x → Where x
  unfolding pattern_in
  known_where x k = by (eqb (number r) (number_of x.reason)) refl
    where
      by : (t : Bool) → eqb (number r) (number_of x.reason) ≡ t → Where x
      by true e = here (eqb-true (number r) (number_of x.reason) e) (rw e)
      by false e = later (rw e) (record { some = rw e at k.some; place = k.place; lead = rw e at k.lead })

  -- the sentence of what the first row finds is the text that the match agrees with
  pub found_sentence : (bytes : List ℕ)
      → sentence_in (r ∷ rs) (found r bytes) ≡ filled (matched r.pattern bytes).place (matched r.pattern bytes).lead r.pattern
  unfolding sentence_in pattern_in
  found_sentence bytes = rw (eq-eqb (number r) (number r) refl)

  module _ (f : First r rs) where
    -- what those after it know is known with it before them, and has the same sentence
    module _ (x : Refusal) (k : Known rs x) where
      abbrev skips : eqb (number r) (number_of x.reason) ≡ false
      skips = (apart_from r rs (number_of x.reason) f.apart k.some).number

      pub known_later : Known (r ∷ rs) x
      unfolding pattern_in
      known_later = record { some = rw skips k.some; place = k.place; lead = rw skips k.lead }

      pub sentence_later : sentence_in (r ∷ rs) x ≡ sentence_in rs x
      unfolding sentence_in pattern_in
      sentence_later = rw skips

    -- what the first row finds is known
    pub found_known : (bytes : List ℕ) → Known (r ∷ rs) (found r bytes)
    unfolding pattern_in
    found_known bytes =
        let e = eq-eqb (number r) (number r) refl in
        record { some = rw e (row_some (number r) r.pattern f.row); place = matched_place r.pattern bytes; lead = rw e (matched_lead r.pattern bytes) }

-- a list that has a row knows a refusal
pub some_known : (rows : List Row) → are_sound rows ≡ true → 0 < length rows → (x : Refusal) × Known rows x
some_known [] e h = absurd (omega arith)
some_known (r ∷ rs) e h = (found r [], found_known r rs (first r rs e) [])
