-- Reading by sound rows: a sentence is read back, and only a sentence is read.
use mathlib.Core.Path.{◌≡◌, refl, sym, ◌∙◌, ap, subst}
use mathlib.Core.Bool.{Bool, true, false, cond}
use mathlib.Core.List.{List, [], ◌∷◌}
use Prim.Native.Nat.{ℕ, ◌≤◌, max}
use native.Mathlib.Omega.{arith}
use Rattle.refusal.specs.declared.Refusal.{Refusal}
use Rattle.refusal.specs.Refused.{number_of}
use Rattle.refusal.proofs.Numbers.{reason_unique}
use Rattle.sentence.specs.Patterns.{lead_mark, most_place, most_lead, filled, has, most_lead_of}
use Rattle.sentence.specs.Sentences.{Row, number, pattern_in, sentence_in}
use Rattle.sentence.specs.Condition.{are_sound}
use Rattle.sentence.specs.Reading.{Match, matched, found, read_from}
use Rattle.sentence.proofs.Soundness.{IsRow, First, first}
use Rattle.sentence.proofs.RowCases.{read_here, read_later}
use Rattle.sentence_laws.proofs.Matching.{match_agrees, match_whole}
use Rattle.sentence_laws.proofs.Parting.{parted_not_whole}
use Rattle.sentence_laws.proofs.SoundRows.{apart_from}
use Rattle.sentence_laws.proofs.KnownRows.{Known, none_known, Where, known_where, known_later, sentence_later, found_known, found_sentence}
use Rattle.std.proofs.Common.{Ok}

-- ---- leads

module _ (ps : List ℕ) (l : ℕ) (h : l ≤ most_lead_of ps) where
  pub lead_small : l ≤ most_lead
  unfolding most_lead_of
  lead_small = by (has lead_mark ps) h
    where
      by : (t : Bool) → l ≤ cond t most_lead 0 → l ≤ most_lead
      by true k = k
      by false k = omega arith

  lead_shown : cond (has lead_mark ps) l 0 ≡ l
  unfolding most_lead_of
  lead_shown = by (has lead_mark ps) h
    where
      by : (t : Bool) → l ≤ cond t most_lead 0 → cond t l 0 ≡ l
      by true k = refl
      by false k = omega arith

-- ---- a sentence is read back

-- by its own row
found_own : (r : Row) (x : Refusal) (bytes : List ℕ) → IsRow (number r) r.pattern → number r ≡ number_of x.reason
    → x.place ≤ most_place → x.lead ≤ most_lead_of r.pattern
    → bytes ≡ filled x.place x.lead r.pattern → ((matched r.pattern bytes).whole ≡ true) × (found r bytes ≡ x)
found_own r x bytes row numbered place lead text =
    let small : x.lead ≤ most_lead = lead_small r.pattern x.lead lead in
    let whole = ap (matched r.pattern) text ∙ match_whole x.place x.lead place small r.pattern row.pattern in
    let p : (matched r.pattern bytes).place ≡ x.place = ap (λ (m : Match). m.place) whole ∙ (rw row.place) in
    let l : (matched r.pattern bytes).lead ≡ x.lead = ap (λ (m : Match). m.lead) whole ∙ lead_shown r.pattern x.lead lead in
    (ap (λ (m : Match). m.whole) whole, rw (reason_unique r.reason x.reason numbered, p, l))

pub sentence_read : (rows : List Row) → are_sound rows ≡ true → (x : Refusal) → Known rows x → (best : ℕ) (bytes : List ℕ) → bytes ≡ sentence_in rows x
    → read_from rows best bytes ≡ Ok x
unfolding sentence_in
sentence_read [] e x k best bytes h = absurd (none_known x k)
sentence_read (r ∷ rs) e x k best bytes h = by (known_where r rs x k) (sentence_read rs f.rest x)
  where
    f : First r rs
    f = first r rs e

    by : Where r rs x → ((j : Known rs x) (b : ℕ) (l : List ℕ) → l ≡ sentence_in rs x → read_from rs b l ≡ Ok x)
        → read_from (r ∷ rs) best bytes ≡ Ok x
    by (Where.here number same) ih =
        let own = found_own r x bytes f.row number k.place (rw same at k.lead) (h ∙ ap (filled x.place x.lead) same) in
        read_here r rs best bytes own.0 ∙ ap Ok own.1
    by (Where.later same j) ih =
        let text : bytes ≡ filled x.place x.lead (pattern_in rs (number_of x.reason)) = h ∙ ap (filled x.place x.lead) same in
        let parts = (apart_from r rs (number_of x.reason) f.apart j.some).parts in
        let other : (matched r.pattern bytes).whole ≡ false =
        rw text (parted_not_whole r.pattern (pattern_in rs (number_of x.reason)) x.place x.lead f.row.pattern parts) in
        read_later r rs best bytes other ∙ ih j _ bytes text

-- ---- only a sentence is read

pub read_sentence_lem : (rows : List Row) → are_sound rows ≡ true → (best : ℕ) (bytes : List ℕ) (x : Refusal) → read_from rows best bytes ≡ Ok x
    → Known rows x × (bytes ≡ sentence_in rows x)
unfolding read_from
read_sentence_lem [] e best bytes x h = absurd cc
read_sentence_lem (r ∷ rs) e best bytes x h = by m.whole refl (read_sentence_lem rs f.rest (max best m.shared) bytes x)
  where
    f : First r rs
    f = first r rs e

    m : Match
    m = matched r.pattern bytes

    by : (t : Bool) → m.whole ≡ t → (read_from rs (max best m.shared) bytes ≡ Ok x → Known rs x × (bytes ≡ sentence_in rs x))
        → Known (r ∷ rs) x × (bytes ≡ sentence_in (r ∷ rs) x)
    by true w ih =
        let same : found r bytes ≡ x = cc (read_here r rs best bytes w) in
        let text : bytes ≡ sentence_in (r ∷ rs) (found r bytes) =
        (match_agrees r.pattern f.row.pattern bytes).all w ∙ sym (found_sentence r rs bytes) in
        (subst (λ (y : Refusal). Known (r ∷ rs) y) same (found_known r rs f bytes), text ∙ ap (sentence_in (r ∷ rs)) same)
    by false w ih =
        let (k, text) = ih (sym (read_later r rs best bytes w) ∙ h) in
        (known_later r rs f x k, text ∙ sym (sentence_later r rs f x k))
