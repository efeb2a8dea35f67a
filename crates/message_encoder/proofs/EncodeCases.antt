-- `encode_message` and `message_encoded_into`: an equation for each answer, under the checks that lead to it, and back.
use mathlib.Core.Path.{◌≡◌, sym, ◌∙◌, ap}
use mathlib.Core.Bool.{true, false, not}
use mathlib.Core.List.{List}
use Prim.Native.Nat.{ℕ, ◌*◌, ◌<◌, ◌≤◌}
use borrow.Author.Tests.{lt-ltb, le-ltb}
use lib.ListN.{length}
use Rattle.lists.specs.Lists.{over}
use Rattle.lists.specs.Found.{found}
use Rattle.lists.proofs.Found.{position_found}
use Rattle.refusal.specs.Refused.{refused_at}
use Rattle.refusal.specs.Checks.{within, is_mode}
use Rattle.refusal.specs.declared.Refusal.{Refusal}
use Rattle.block_encoder.specs.Encoding.{sent_into}
use Rattle.message_encoder.specs.Blocks.{block_count}
use Rattle.message_encoder.specs.Encoding.{first_bad_text_code, sent_tones, encode_message, message_encoded_into}
use Rattle.std.proofs.Common.{Ok, Err, position}
use Rattle.refusal.specs.declared.Reason.{Reason}

-- the codes that are not of a text, as they are looked for
pub code_found : (text : List ℕ) → position (λ code. not (within 1 127 code)) text ≡ found (length text) (first_bad_text_code text)
unfolding first_bad_text_code
code_found text = position_found (λ code. not (within 1 127 code)) text

-- what the checks of mode and text leave
pub record Sendable (limit b : ℕ) (text : List ℕ) : Type 0 where
  pub mode : is_mode b ≡ true
  pub count : length text ≤ limit
  pub codes : length text ≤ first_bad_text_code text

module _ (limit b : ℕ) (text : List ℕ) (room : ℕ) where
  pub refuses_mode : is_mode b ≡ false → encode_message limit b text room ≡ Err (refused_at Reason.Mode 0)
  unfolding encode_message
  refuses_mode e = simp e

  module _ (e : is_mode b ≡ true) where
    pub refuses_count : limit < length text → encode_message limit b text room ≡ Err (refused_at Reason.CodeCount 0)
    unfolding encode_message
    refuses_count h = simp (e, lt-ltb limit (length text) h)

    module _ (n : length text ≤ limit) where
      pub refuses_room : room < 64 * block_count b (length text) → encode_message limit b text room ≡ Err (refused_at Reason.Room 0)
      unfolding encode_message
      refuses_room h = simp (e, le-ltb limit (length text) n, lt-ltb room (64 * block_count b (length text)) h)

      pub refuses_code : 64 * block_count b (length text) ≤ room → first_bad_text_code text < length text
          → encode_message limit b text room ≡ Err (refused_at Reason.Code (first_bad_text_code text))
      unfolding encode_message
      refuses_code h l =
          simp (e, le-ltb limit (length text) n, le-ltb room (64 * block_count b (length text)) h, lt-ltb (first_bad_text_code text) (length text) l)

  pub encodes : Sendable limit b text → 64 * block_count b (length text) ≤ room → encode_message limit b text room ≡ Ok (64 * block_count b (length text))
  unfolding encode_message
  encodes s h =
      simp (s.mode, le-ltb limit (length text) s.count, le-ltb room (64 * block_count b (length text)) h, le-ltb (first_bad_text_code text) (length text) s.codes)

module _ (limit b : ℕ) (text tones : List ℕ) where
  tones_kept : {r : Refusal} → encode_message limit b text (length tones) ≡ Err r → message_encoded_into limit b text tones ≡ tones
  unfolding message_encoded_into sent_into
  tones_kept e = rw e

  pub tones_written : {n : ℕ} → encode_message limit b text (length tones) ≡ Ok n
      → message_encoded_into limit b text tones ≡ over (sent_tones b text (block_count b (length text))) tones
  unfolding message_encoded_into sent_into
  tones_written e = rw e

  -- a refusal that is told, with the output as it was
  pub refusal_told_lem : {r s : Refusal} → r ≡ s → encode_message limit b text (length tones) ≡ Err s
      → (Err r ≡ encode_message limit b text (length tones)) × (tones ≡ message_encoded_into limit b text tones)
  refusal_told_lem p e = (ap Err p ∙ sym e, sym (tones_kept e))
