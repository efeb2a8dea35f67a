-- Raising m on a message: no other check rests on m, and characters that are clear at m' are clear at every lower m.
use mathlib.Core.Path.{◌≡◌, refl, sym, ◌∙◌, ap}
use mathlib.Core.Bool.{Bool, true, false}
use mathlib.Core.List.{List}
use mathlib.Core.Logic.{◌⊎◌, inl, inr, ◌≢◌, ⊎_elim}
use Prim.Native.Nat.{ℕ, ◌+◌, ◌*◌, ◌/◌, ◌<◌, ◌≤◌, ◌^◌}
use native.Mathlib.Decide.{dec_lt}
use native.Mathlib.Omega.{arith}
use lib.ListN.{length}
use Rattle.lists.specs.Lists.{num}
use Rattle.refusal.specs.Refused.{Answered, refused_at}
use Rattle.refusal.specs.declared.Reason.{Reason}
use Rattle.refusal.specs.Checks.{is_mode, is_lead}
use Rattle.refusal.proofs.Limits.{within_true}
use Rattle.decision.specs.declared.Character.{Character}
use Rattle.tone_range.specs.Range.{first_bad_tone}
use Rattle.tone_range.proofs.Ranges.{tones_good, tone_good}
use Rattle.block_decoder.specs.Decoding.{codes_of, lead_in, first_unclear, heard_into}
use Rattle.block_decoder.proofs.Clarity.{text_refused, clear_told}
use Rattle.lead_laws.proofs.Raises.{clear_below, same_reason}
use Rattle.delivery.specs.Delivery.{delivery}
use Rattle.message_encoder.specs.Blocks.{is_whole}
use Rattle.message_decoder.specs.Decoding.{message_characters, decode_message, message_decoded_into}
use Rattle.message_decoder.proofs.DecodeCases.{judges, refuses_mode, refuses_count, refuses_room, refuses_tone}
use Rattle.message_decoder.proofs.HeardBlocks.{message_count}
use Rattle.message_demands.specs.Laws.{BreaksNoLimit, lead_heard, RefusesAsUnclear, Stays, Raised, RaisedLead}
use Rattle.message_demands.proofs.HeardMessages.{hearable, lead_in_lem, refuses, clear}
use Rattle.std.proofs.Common.{Err}

-- ---- the checks that do not rest on m

module _ (limit b : ℕ) (tones out : List ℕ) where
  -- one of them refuses, at every m
  record Unheard : Type 0 where
    reason : Reason
    place : ℕ
    not_unclear : reason ≢ Reason.Unclear
    told : (m : ℕ) → is_lead m ≡ true → decode_message limit b m tones (length out) ≡ Err (refused_at reason place)

  -- all are passed
  abbrev Heard : Type 0
  Heard = (m : ℕ) → is_lead m ≡ true → BreaksNoLimit limit b m tones out

  checked : Unheard ⊎ Heard
  checked = by (is_mode b) refl (is_whole limit b (length tones)) refl (dec_lt (length out) (length tones / 64 * b)) (dec_lt (first_bad_tone (2 ^ b) tones) (length tones))
    where
      unheard : (reason : Reason) (place : ℕ) → reason ≢ Reason.Unclear → ((m : ℕ) → is_lead m ≡ true → decode_message limit b m tones (length out) ≡ Err (refused_at reason place)) → Unheard ⊎ Heard
      unheard reason place n f = inl (record { reason = reason; place = place; not_unclear = n; told = f })

      by : (s : Bool) → is_mode b ≡ s → (w : Bool) → is_whole limit b (length tones) ≡ w → Dec (length out < length tones / 64 * b)
          → Dec (first_bad_tone (2 ^ b) tones < length tones) → Unheard ⊎ Heard
      by false e w g r t = unheard Reason.Mode 0 (λ z. absurd cc) (λ m f. refuses_mode limit b m tones (length out) e)
      by true e false g r t = unheard Reason.ToneCount 0 (λ z. absurd cc) (λ m f. refuses_count limit b m tones (length out) e f g)
      by true e true g (yes r) t = unheard Reason.Room 0 (λ z. absurd cc) (λ m f. refuses_room limit b m tones (length out) e f g r)
      by true e true g (no r) (yes t) =
          unheard Reason.Tone _ (λ z. absurd cc) (λ m f. refuses_tone limit b m tones (length out) (record { mode = e; lead = f; whole = g; fits = omega arith }) t)
      by true e true g (no r) (no t) = inr (λ m f. record {
        settings = record { mode = e; lead = f };
        whole = g;
        room = omega arith;
        each = λ i l. tone_good (2 ^ b) (num tones i) (tones_good (2 ^ b) tones (omega arith) i l);
      })

-- ---- the law

module _ (limit b m m' : ℕ) (tones out own : List ℕ) where
  stays : decode_message limit b m' tones (length out) ≡ decode_message limit b m tones (length out) → Stays limit b m m' tones out
  unfolding message_decoded_into
  stays e = record { answer = e; output = ap (λ (d : Answered ℕ). heard_into d (codes_of (message_characters b tones)) out) e }

  module _ (f : is_lead m ≡ true) (f' : is_lead m' ≡ true) where
    raised_unheard : Unheard limit b tones out → Raised limit b m m' tones out own
    raised_unheard r =
        let same = stays (r.told m' f' ∙ sym (r.told m f)) in
        record {
          either = inl same;
          same_text = λ n t. same;
          still_unclear = λ u. absurd (r.not_unclear (same_reason (sym (r.told m f) ∙ u.refused)));
        }

    raised_heard : m ≤ m' → b ≤ length own → Heard limit b tones out → Raised limit b m m' tones out own
    raised_heard h fits r = record {
      either = either;
      same_text = λ n t. ⊎_elim (λ s. s) (λ u. absurd (text_refused (sym t ∙ u.refused))) either;
      still_unclear = λ u.
          (clear.precisely limit b m' tones out own (r m' f') fits).unclear u.block u.place u.block_inside u.place_inside
          (omega (arith, u.unclear, lead m f u, lead m' f' u));
    }
      where
        characters : List Character
        characters = message_characters b tones

        lead : (k : ℕ) (g : is_lead k ≡ true) (u : RefusesAsUnclear limit b m tones out own) → lead_heard b k tones own u.block u.place ≡ lead_in characters (u.block * b + u.place)
        lead k g u = lead_in_lem limit b k tones out own (r k g) fits u.block u.place u.block_inside u.place_inside

        told : (k : ℕ) → is_lead k ≡ true → length characters ≤ first_unclear k characters → decode_message limit b k tones (length out) ≡ delivery limit b (codes_of characters)
        told k g l = judges limit b k tones (length out) (hearable limit b k tones out own (r k g) fits) ∙ clear_told k characters _ l

        by : Dec (first_unclear m' characters < length tones / 64 * b) → Stays limit b m m' tones out ⊎ RefusesAsUnclear limit b m' tones out own
        by (yes l) = inr (refuses limit b m' tones out own (r m' f') fits l)
        by (no g) =
            let all : length characters ≤ first_unclear m' characters = omega (arith, message_count b tones) in
            inl (stays (told m' f' all ∙ sym (told m f (clear_below m m' h characters all))))

        either : Stays limit b m m' tones out ⊎ RefusesAsUnclear limit b m' tones out own
        either = by (dec_lt (first_unclear m' characters) (length tones / 64 * b))

pub raised_lead : RaisedLead
raised_lead = record {
  raised = λ limit b m m' tones out own low h high fits.
      let f = within_true 1 64 m low (omega arith) in
      let f' = within_true 1 64 m' (omega arith) high in
      ⊎_elim (raised_unheard limit b m m' tones out own f f') (raised_heard limit b m m' tones out own f f' h fits) (checked limit b tones out);
}
