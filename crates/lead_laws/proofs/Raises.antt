-- Raising m on a block: no other check rests on m, and a character that is clear at m' is clear at every lower m.
use mathlib.Core.Path.{◌≡◌, refl, sym, ◌∙◌, ap}
use mathlib.Core.Bool.{Bool, true, false}
use mathlib.Core.List.{List}
use mathlib.Core.Logic.{◌⊎◌, inl, inr, ◌≢◌, ⊎_elim}
use Prim.Native.Nat.{ℕ, ◌*◌, ◌<◌, ◌≤◌, ◌^◌}
use native.Mathlib.Decide.{ℕ_discrete, dec_lt}
use native.Mathlib.Omega.{arith}
use lib.ListN.{length}
use Rattle.refusal.specs.declared.Reason.{Reason}
use Rattle.refusal.specs.declared.Refusal.{Refusal}
use Rattle.refusal.specs.Refused.{Answered, refused_at}
use Rattle.refusal.specs.Checks.{is_lead_at, is_mode}
use Rattle.refusal.proofs.Limits.{within_true}
use Rattle.decision.specs.declared.Character.{Character}
use Rattle.tone_range.specs.Range.{HasTones, first_bad_tone}
use Rattle.tone_range.proofs.Ranges.{in_range_tones}
use Rattle.weight_range.specs.Range.{HasWeights, first_bad_weight}
use Rattle.weight_range.proofs.Ranges.{in_range_weights}
use Rattle.block_decoder.specs.Decoding.{weighted_of, codes_of, first_unclear, padded, refused, heard_block, heard_into, heard_block_into}
use Rattle.block_decoder.specs.declared.BlockDecoded.{BlockDecoded}
use Rattle.block_decoder.proofs.Characters.{characters_length}
use Rattle.block_decoder.proofs.Clarity.{text_refused, all_clear, clear_lead, clear_told}
use Rattle.block_decoder.proofs.DecodeCases.{Passed, judged, refuses_mode, refuses_count, refuses_weights, refuses_room, refuses_tone, refuses_weight}
use Rattle.block_decoder.proofs.Answers.{weighed_up}
use Rattle.demands.specs.Demand.{RefusesAsUnclear}
use Rattle.demands.proofs.Answers.{refuses}
use Rattle.lead_laws.specs.Laws.{lower, higher, Stays, BecomesUnclear, Raised, RaisedLead}
use Rattle.std.proofs.Common.{Ok, Err}

-- characters that are all clear at m' are so at every lower m
pub clear_below : (m m' : ℕ) → m ≤ m' → (characters : List Character) → length characters ≤ first_unclear m' characters
    → length characters ≤ first_unclear m characters
clear_below m m' h characters clear = all_clear m characters (λ q l. omega (arith, clear_lead m' characters clear q l))

pub same_reason : {reason : Reason} {place : ℕ} {r : Refusal} → ◌≡◌ {A = Answered ℕ} (Err (refused_at reason place)) (Err r) → reason ≡ r.reason
same_reason {reason} {place} {r} e =
    let same : refused_at reason place ≡ r = cc in
    ap (λ (x : Refusal). x.reason) same

-- ---- the checks that do not rest on m

module _ (N b : ℕ) (tones weights : List ℕ) (room : ℕ) where
  -- one of them refuses, at every m
  record Unheard : Type 0 where
    reason : Reason
    place : ℕ
    not_unclear : reason ≢ Reason.Unclear
    told : (m : ℕ) → is_lead_at N m ≡ true → heard_block N b m tones weights room ≡ refused reason place

  -- all are passed
  record Heard : Type 0 where
    passed : (m : ℕ) → is_lead_at N m ≡ true → Passed N b m (length tones) (length weights) room
    has_tones : HasTones (2 ^ b) tones
    has_weights : HasWeights N weights

  checked : Unheard ⊎ Heard
  checked = by (is_mode b) refl (ℕ_discrete (length tones) 64) (ℕ_discrete (length weights) 64) (dec_lt room b) (dec_lt (first_bad_tone (2 ^ b) tones) 64) (dec_lt (first_bad_weight N weights) 64)
    where
      unheard : (reason : Reason) (place : ℕ) → reason ≢ Reason.Unclear
          → ((m : ℕ) → is_lead_at N m ≡ true → heard_block N b m tones weights room ≡ refused reason place) → Unheard ⊎ Heard
      unheard reason place n f = inl (record { reason = reason; place = place; not_unclear = n; told = f })

      by : (s : Bool) → is_mode b ≡ s → Dec (length tones ≡ 64) → Dec (length weights ≡ 64) → Dec (room < b) → Dec (first_bad_tone (2 ^ b) tones < 64)
          → Dec (first_bad_weight N weights < 64) → Unheard ⊎ Heard
      by false e n w r t v = unheard Reason.Mode 0 (λ z. absurd cc) (λ m f. refuses_mode N b m tones weights room e)
      by true e (no n) w r t v = unheard Reason.ToneCount 0 (λ z. absurd cc) (λ m f. refuses_count N b m tones weights room e f n)
      by true e (yes n) (no w) r t v = unheard Reason.ToneCount 0 (λ z. absurd cc) (λ m f. refuses_weights N b m tones weights room e f n w)
      by true e (yes n) (yes w) (yes r) t v = unheard Reason.Room 0 (λ z. absurd cc) (λ m f. refuses_room N b m tones weights room e f n w r)
      by true e (yes n) (yes w) (no r) t v = in_range t v
        where
          passed : (m : ℕ) → is_lead_at N m ≡ true → Passed N b m (length tones) (length weights) room
          passed m f = record { mode = e; lead = f; count = n; weighed = w; fits = omega arith }

          in_range : Dec (first_bad_tone (2 ^ b) tones < 64) → Dec (first_bad_weight N weights < 64) → Unheard ⊎ Heard
          in_range (yes t) v = unheard Reason.Tone _ (λ z. absurd cc) (λ m f. refuses_tone N b m tones weights room (passed m f) t)
          in_range (no t) (yes v) = unheard Reason.Weight _ (λ z. absurd cc) (λ m f. refuses_weight N b m tones weights room (passed m f) (omega arith) v)
          in_range (no t) (no v) = inr (record {
            passed = passed;
            has_tones = in_range_tones b tones n (omega arith);
            has_weights = in_range_weights N weights w (omega arith);
          })

-- ---- the law

module _ (N b m m' : ℕ) (tones weights out : List ℕ) where
  abbrev UnclearLower : Type 0
  UnclearLower = RefusesAsUnclear b m (lower N b m m' tones weights out) out (heard_block_into N b m tones weights out)

  raised_same : higher N b m m' tones weights out ≡ lower N b m m' tones weights out → (UnclearLower → ⊥) → Raised N b m m' tones weights out
  unfolding heard_block_into
  raised_same e clear =
      let same : Stays N b m m' tones weights out =
      record { answer = e; output = ap (λ (d : BlockDecoded). heard_into d.answer (codes_of (weighted_of b tones weights)) out) e } in
      record { either = inl same; same_text = λ n t. same; still_unclear = λ u. absurd (clear u) }

  raised_unclear : BecomesUnclear N b m m' tones weights out → Raised N b m m' tones weights out
  raised_unclear u = record {
    either = inr u;
    same_text = λ n t. absurd (text_refused (sym t ∙ u.unclear.refused));
    still_unclear = λ x. u.unclear;
  }

  module _ (f : is_lead_at N m ≡ true) (f' : is_lead_at N m' ≡ true) where
    raised_unheard : Unheard N b tones weights (length out) → Raised N b m m' tones weights out
    unfolding refused
    raised_unheard r =
        raised_same (r.told m' f' ∙ sym (r.told m f))
        (λ u. r.not_unclear (same_reason (sym (ap (λ (d : BlockDecoded). d.answer) (r.told m f)) ∙ u.refused)))

    raised_heard : m ≤ m' → Heard N b tones weights (length out) → Raised N b m m' tones weights out
    raised_heard h r = by (dec_lt (first_unclear m' characters) b)
      where
        characters : List Character
        characters = weighted_of b tones weights

        whole : (k : ℕ) → is_lead_at N k ≡ true → heard_block N b k tones weights (length out) ≡ judged b k characters
        whole k g = weighed_up N b k tones weights (length out) (r.passed k g) r.has_tones r.has_weights

        accepted : (k : ℕ) → is_lead_at N k ≡ true → length characters ≤ first_unclear k characters
            → heard_block N b k tones weights (length out) ≡ record { answer = Ok b; characters = padded characters }
        accepted k g l = whole k g ∙ ap (λ (d : Answered ℕ). record { answer = d; characters = padded characters }) (clear_told k characters (Ok b) l)

        by : Dec (first_unclear m' characters < b) → Raised N b m m' tones weights out
        by (yes l) = raised_unclear (record {
          unclear = refuses N b m' tones weights out (r.passed m' f') r.has_tones r.has_weights l;
          records = ap (λ (d : BlockDecoded). d.characters) (whole m' f') ∙ sym (ap (λ (d : BlockDecoded). d.characters) (whole m f));
        })
        by (no g) =
            let clear : length characters ≤ first_unclear m' characters = omega (arith, characters_length b tones weights) in
            let text = accepted m f (clear_below m m' h characters clear) in
            raised_same (accepted m' f' clear ∙ sym text) (λ u. text_refused (sym (ap (λ (d : BlockDecoded). d.answer) text) ∙ u.refused))

pub raised_lead : RaisedLead
raised_lead = record {
  raised = λ N b m m' tones weights out low h high.
      let f = within_true 1 (64 * N) m low (omega arith) in
      let f' = within_true 1 (64 * N) m' (omega arith) high in
      ⊎_elim (raised_unheard N b m m' tones weights out f f') (raised_heard N b m m' tones weights out f f' h) (checked N b tones weights (length out));
}
