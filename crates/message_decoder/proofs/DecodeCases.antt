-- `decode_message` and `message_decoded_into`: an equation for each answer, under the checks that lead to it, and back.
use mathlib.Core.Path.{◌≡◌, sym, ◌∙◌, ap}
use mathlib.Core.Bool.{true, false}
use mathlib.Core.List.{List}
use Prim.Native.Nat.{ℕ, ◌*◌, ◌/◌, ◌<◌, ◌≤◌, ◌^◌}
use borrow.Author.Tests.{lt-ltb, le-ltb, ltb-false, not-false}
use lib.ListN.{length, take}
use Rattle.lists.specs.Lists.{over}
use Rattle.refusal.specs.Refused.{Answered, refused_at}
use Rattle.refusal.specs.Checks.{is_mode, is_lead}
use Rattle.refusal.specs.declared.Refusal.{Refusal}
use Rattle.tone_range.specs.Range.{first_bad_tone}
use Rattle.block_decoder.specs.Decoding.{codes_of, first_unclear, unless_unclear, heard_into}
use Rattle.block_decoder.proofs.Clarity.{text_told}
use Rattle.delivery.specs.Delivery.{delivery}
use Rattle.refusal.proofs.Agreement.{passes}
use Rattle.message_encoder.specs.Blocks.{is_whole}
use Rattle.message_decoder.specs.Decoding.{message_characters, decode_message, message_decoded_into}
use Rattle.std.proofs.Common.{Ok, Err}
use Rattle.refusal.specs.declared.Reason.{Reason}

-- what the checks before the range of the tones leave
pub record Passed (limit b m : ℕ) (count room : ℕ) : Type 0 where
  pub mode : is_mode b ≡ true
  pub lead : is_lead m ≡ true
  pub whole : is_whole limit b count ≡ true
  pub fits : count / 64 * b ≤ room

pub record Hearable (limit b m : ℕ) (tones : List ℕ) (room : ℕ) : Type 0 where
  pub passed : Passed limit b m (length tones) room
  pub in_range : length tones ≤ first_bad_tone (2 ^ b) tones

module _ (limit b m : ℕ) (tones : List ℕ) (room : ℕ) where
  pub refuses_mode : is_mode b ≡ false → decode_message limit b m tones room ≡ Err (refused_at Reason.Mode 0)
  unfolding decode_message
  refuses_mode e = simp e

  module _ (e : is_mode b ≡ true) where
    pub refuses_lead : is_lead m ≡ false → decode_message limit b m tones room ≡ Err (refused_at Reason.LeastLead 0)
    unfolding decode_message
    refuses_lead f = simp (e, f)

    module _ (f : is_lead m ≡ true) where
      pub refuses_count : is_whole limit b (length tones) ≡ false → decode_message limit b m tones room ≡ Err (refused_at Reason.ToneCount 0)
      unfolding decode_message
      refuses_count g = simp (e, f, g)

      pub refuses_room : is_whole limit b (length tones) ≡ true → room < length tones / 64 * b → decode_message limit b m tones room ≡ Err (refused_at Reason.Room 0)
      unfolding decode_message
      refuses_room g h = simp (e, f, g, lt-ltb room (length tones / 64 * b) h)

  pub refuses_tone : Passed limit b m (length tones) room → first_bad_tone (2 ^ b) tones < length tones
      → decode_message limit b m tones room ≡ Err (refused_at Reason.Tone (first_bad_tone (2 ^ b) tones))
  unfolding decode_message
  refuses_tone p h =
      simp (p.mode, p.lead, p.whole, le-ltb room (length tones / 64 * b) p.fits, lt-ltb (first_bad_tone (2 ^ b) tones) (length tones) h)

  pub judges : Hearable limit b m tones room
      → decode_message limit b m tones room ≡ unless_unclear m (message_characters b tones) (delivery limit b (codes_of (message_characters b tones)))
  unfolding decode_message
  judges h =
      let p = h.passed in
      simp (p.mode, p.lead, p.whole, le-ltb room (length tones / 64 * b) p.fits, le-ltb (first_bad_tone (2 ^ b) tones) (length tones) h.in_range)

module _ (limit b m : ℕ) (tones text : List ℕ) where
  pub text_kept : {r : Refusal} → decode_message limit b m tones (length text) ≡ Err r → message_decoded_into limit b m tones text ≡ text
  unfolding message_decoded_into heard_into
  text_kept e = rw e

  pub text_written : {n : ℕ} → decode_message limit b m tones (length text) ≡ Ok n
      → message_decoded_into limit b m tones text ≡ over (take n (codes_of (message_characters b tones))) text
  unfolding message_decoded_into heard_into
  text_written e = rw e

  -- a refusal that is told, with the output as it was
  pub refusal_told_lem : {r s : Refusal} → r ≡ s → decode_message limit b m tones (length text) ≡ Err s
      → (Err r ≡ decode_message limit b m tones (length text)) × (text ≡ message_decoded_into limit b m tones text)
  refusal_told_lem p e = (ap Err p ∙ sym e, sym (text_kept e))

  -- what the codes deliver that is told, with the output that it leaves
  pub delivery_told : {codes out : List ℕ} {answer : Answered ℕ} → codes ≡ codes_of (message_characters b tones)
      → decode_message limit b m tones (length text) ≡ delivery limit b (codes_of (message_characters b tones))
      → answer ≡ delivery limit b codes → out ≡ heard_into (delivery limit b codes) codes text
      → (answer ≡ decode_message limit b m tones (length text)) × (out ≡ message_decoded_into limit b m tones text)
  unfolding message_decoded_into
  delivery_told p e q w =
      (q ∙ ap (delivery limit b) p ∙ sym e, w ∙ ap (λ (x : List ℕ). heard_into (delivery limit b x) x text) p ∙ ap (λ (d : Answered ℕ). heard_into d (codes_of (message_characters b tones)) text) (sym e))

-- ---- an accepted message passed every check

pub record Heard (limit b m : ℕ) (tones : List ℕ) (room n : ℕ) : Type 0 where
  pub hearable : Hearable limit b m tones room
  pub clear : length (message_characters b tones) ≤ first_unclear m (message_characters b tones)
  pub text : delivery limit b (codes_of (message_characters b tones)) ≡ Ok n

pub heard : (limit b m : ℕ) (tones : List ℕ) (room n : ℕ) → decode_message limit b m tones room ≡ Ok n → Heard limit b m tones room n
unfolding decode_message
heard limit b m tones room n e =
    let p1 = passes _ _ _ _ e in
    let p2 = passes _ _ _ _ p1.1 in
    let p3 = passes _ _ _ _ p2.1 in
    let p4 = passes _ _ _ _ p3.1 in
    let p5 = passes _ _ _ _ p4.1 in
    let told = text_told m (message_characters b tones) _ n p5.1 in
    record {
      hearable = record {
        passed = record {
          mode = not-false _ p1.0;
          lead = not-false _ p2.0;
          whole = not-false _ p3.0;
          fits = ltb-false room (length tones / 64 * b) p4.0;
        };
        in_range = ltb-false (first_bad_tone (2 ^ b) tones) (length tones) p5.0;
      };
      clear = told.0;
      text = told.1;
    }
