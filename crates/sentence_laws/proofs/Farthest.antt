-- Reading by sound rows: anything but a sentence is refused at the longest beginning that it shares with a sentence.
use mathlib.Core.Path.{◌≡◌, refl, sym, ◌∙◌, ap}
use mathlib.Core.Bool.{Bool, true, false}
use mathlib.Core.List.{List, [], ◌∷◌}
use mathlib.Core.Logic.{◌⊎◌, inl, inr}
use Prim.Native.Nat.{ℕ, ◌≤◌, max}
use native.Mathlib.Decide.{dec_le}
use native.Mathlib.Omega.{arith}
use Rattle.refusal.specs.declared.Refusal.{Refusal}
use Rattle.refusal.specs.Refused.{number_of, refused_at}
use Rattle.sentence.specs.Patterns.{most_lead}
use Rattle.sentence.specs.Sentences.{Row, pattern_in, sentence_in}
use Rattle.sentence.specs.Condition.{are_sound}
use Rattle.sentence.specs.Reading.{Match, matched, found, read_from}
use Rattle.sentence.proofs.Soundness.{First, first}
use Rattle.sentence.proofs.RowCases.{read_here, read_later}
use Rattle.sentence_laws.proofs.Shared.{shared}
use Rattle.sentence_laws.proofs.Matching.{match_most, match_agrees}
use Rattle.sentence_laws.proofs.KnownRows.{Known, none_known, Where, known_where, known_later, sentence_later, found_known, found_sentence}
use Rattle.sentence_laws.proofs.RowReading.{lead_small}
use Rattle.std.proofs.Common.{Err}
use Rattle.refusal.specs.declared.Reason.{Reason}

-- a known refusal whose sentence shares n bytes
abbrev pub Reached : List Row → List ℕ → ℕ → Type 0
Reached rows bytes n = (x : Refusal) × Known rows x × (shared bytes (sentence_in rows x) ≡ n)

-- q's place is the longest beginning, or best if that is longer
pub record Farthest (rows : List Row) (best : ℕ) (bytes : List ℕ) (q : Refusal) : Type 0 where
  pub reason : q.reason ≡ Reason.Sentence
  pub lead : q.lead ≡ 0
  pub least : best ≤ q.place
  pub most : (x : Refusal) → Known rows x → shared bytes (sentence_in rows x) ≤ q.place
  pub reached : (q.place ≡ best) ⊎ Reached rows bytes q.place

-- ---- one row before others

module _ (r : Row) (rs : List Row) (f : First r rs) (best : ℕ) (bytes : List ℕ) (q : Refusal) where
  abbrev m : Match
  m = matched r.pattern bytes

  -- a sentence of the row agrees with no more bytes than the match says, and that of what is found with so many
  own_most : (x : Refusal) → Known (r ∷ rs) x → pattern_in (r ∷ rs) (number_of x.reason) ≡ r.pattern → shared bytes (sentence_in (r ∷ rs) x) ≤ m.shared
  unfolding sentence_in
  own_most x k same =
      let small : x.lead ≤ most_lead = lead_small (pattern_in (r ∷ rs) (number_of x.reason)) x.lead k.lead in
      rw same (match_most x.place x.lead k.place small r.pattern f.row.pattern bytes)

  own_reached : shared bytes (sentence_in (r ∷ rs) (found r bytes)) ≡ m.shared
  own_reached = ap (shared bytes) (found_sentence r rs bytes) ∙ (match_agrees r.pattern f.row.pattern bytes).reached

  one_more : Farthest rs (max best m.shared) bytes q → Farthest (r ∷ rs) best bytes q
  one_more g = record {
    reason = g.reason;
    lead = g.lead;
    least = omega (arith, g.least);
    most = λ x k. bound x k (known_where r rs x k);
    reached = from g.reached (dec_le m.shared best);
  }
    where
      bound : (x : Refusal) → Known (r ∷ rs) x → Where r rs x → shared bytes (sentence_in (r ∷ rs) x) ≤ q.place
      bound x k (Where.here number same) = omega (arith, own_most x k same, g.least)
      bound x k (Where.later same j) = rw (sentence_later r rs f x j) (g.most x j)

      from : (q.place ≡ max best m.shared) ⊎ Reached rs bytes q.place → Dec (m.shared ≤ best) → (q.place ≡ best) ⊎ Reached (r ∷ rs) bytes q.place
      from (inl e) (yes l) = inl (omega arith)
      from (inl e) (no l) = inr (found r bytes, found_known r rs f bytes, omega (arith, own_reached))
      from (inr (x, k, e)) d = inr (x, known_later r rs f x k, ap (shared bytes) (sentence_later r rs f x k) ∙ e)

-- ---- the rows

pub refused_farthest : (rows : List Row) → are_sound rows ≡ true → (best : ℕ) (bytes : List ℕ) (q : Refusal) → read_from rows best bytes ≡ Err q
    → Farthest rows best bytes q
unfolding read_from
refused_farthest [] e best bytes q h =
    let same : refused_at Reason.Sentence best ≡ q = cc in
    rw (← same) (record { reason = refl; lead = refl; least = omega arith; most = λ x k. absurd (none_known x k); reached = inl refl })
refused_farthest (r ∷ rs) e best bytes q h = by m.whole refl (refused_farthest rs f.rest (max best m.shared) bytes q)
  where
    f : First r rs
    f = first r rs e

    m : Match
    m = matched r.pattern bytes

    by : (t : Bool) → m.whole ≡ t
        → (read_from rs (max best m.shared) bytes ≡ Err q → Farthest rs (max best m.shared) bytes q) → Farthest (r ∷ rs) best bytes q
    by true w ih = absurd (cc (read_here r rs best bytes w))
    by false w ih = one_more r rs f best bytes q (ih (sym (read_later r rs best bytes w) ∙ h))
