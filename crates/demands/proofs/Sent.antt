-- What is sent: a text is accepted, its tones go on the air, and none of them is a mark.
use mathlib.Core.Path.{◌≡◌, refl, sym, ◌∙◌, ap, ap₂}
use mathlib.Core.Bool.{Bool, true, false, not}
use mathlib.Core.List.{List}
use Prim.Native.Nat.{ℕ, ◌≤◌}
use native.Mathlib.Omega.{arith}
use borrow.Author.Tests.{eqb-false}
use lib.Dec.{ltb, eqb}
use lib.ListN.{length, take}
use Rattle.lists.proofs.Fronts.{take_over}
use Rattle.lists.proofs.Integers.{cond_cases}
use Rattle.refusal.specs.Checks.{is_mode}
use Rattle.refusal.proofs.Limits.{mode_range}
use Rattle.chain.specs.Chain.{missing_mark, tone_at, tones_of}
use Rattle.chain.proofs.Tones.{tones_length, tone_sent, tone_below_lem}
use Rattle.block_encoder.specs.Encoding.{IsText, first_bad_code, encode_block, sent_into, encoded_into, count_sent, on_air}
use Rattle.block_encoder.proofs.Ranges.{text_in_range}
use Rattle.block_encoder.proofs.EncodeCases.{refuses_mode, encodes, tones_written}
use Rattle.demands.specs.Laws.{air, AreSent, NoMark}
use Rattle.demands.proofs.Hearings.{tone_present}
use Rattle.std.proofs.Common.{Ok}
use Rattle.refusal.specs.Refused.{Answered}

module _ (b : ℕ) (text tones : List ℕ) where
  pub sends : is_mode b ≡ true → IsText b text → 64 ≤ length tones → encode_block b text (length tones) ≡ Ok 64
  sends mode is_text_lem h = encodes b text (length tones) mode is_text_lem.count h (text_in_range b text is_text_lem)

  pub air_sent : encode_block b text (length tones) ≡ Ok 64 → air b text tones ≡ tones_of b text
  unfolding air on_air
  air_sent e = ap₂ take (ap count_sent e) (tones_written b text tones e) ∙ take_over (tones_of b text) tones 64 (tones_length b text)

-- ---- no mark

pub nothing_sent : (b : ℕ) (x : List ℕ) → AreSent b (take 0 x)
nothing_sent b x = record { below = λ t l. absurd (omega arith); no_mark = λ t l. absurd (omega arith) }

pub tones_sent : (b : ℕ) (text : List ℕ) → b ≤ 8 → AreSent b (tones_of b text)
tones_sent b text high =
    let size : length (tones_of b text) ≡ 64 = tones_length b text in
    record {
      below = λ t l. rw (tone_sent b text t (omega arith)) (tone_below_lem b text t);
      no_mark = λ t l e. eqb-false (tone_at b text t) missing_mark (tone_present b text t high) (sym (tone_sent b text t (omega arith)) ∙ e);
    }

sent_without_mark : (b : ℕ) (text tones : List ℕ) → AreSent b (air b text tones)
unfolding air on_air encoded_into sent_into encode_block
sent_without_mark b text tones = by (is_mode b) refl
  where
    Sent : Answered ℕ → Type 0
    Sent e = AreSent b (take (count_sent e) (sent_into e (tones_of b text) tones))

    by : (t : Bool) → is_mode b ≡ t → Sent (encode_block b text (length tones))
    by true mode =
        cond_cases Sent (not (is_mode b)) _ _ (λ _. nothing_sent b tones) (λ _.
        cond_cases Sent (not (eqb (length text) b)) _ _ (λ _. nothing_sent b tones) (λ _.
        cond_cases Sent (ltb (length tones) 64) _ _ (λ _. nothing_sent b tones) (λ _.
        cond_cases Sent (ltb (first_bad_code text) b) _ _ (λ _. nothing_sent b tones) (λ _.
        rw (take_over (tones_of b text) tones 64 (tones_length b text)) (tones_sent b text (mode_range b mode).1)))))
    by false mode = rw (refuses_mode b text (length tones) mode) (nothing_sent b tones)

pub no_mark : NoMark
no_mark = record { sent = sent_without_mark }
