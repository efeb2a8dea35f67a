-- What decoding a message of at most limit codes answers and leaves in the output. Checks when hearing: 1, 2, 7, 9, 8, 10, 11, 12.
use Rattle.std.specs.Prelude.{cond, not, List, ℕ, ◌*◌, ◌/◌, ◌^◌, ltb, length, Err}
use Rattle.lists.specs.Lists.{joined}
use Rattle.refusal.specs.Refused.{Answered, refused_at}
use Rattle.refusal.specs.Checks.{is_mode, is_lead}
use Rattle.decision.specs.declared.Character.{Character}
use Rattle.tone_range.specs.Range.{first_bad_tone}
use Rattle.block_decoder.specs.Decoding.{characters_of, codes_of, unless_unclear, heard_into}
use Rattle.delivery.specs.Delivery.{delivery}
use Rattle.message_encoder.specs.Blocks.{block_at, is_whole}
use Rattle.refusal.specs.declared.Reason.{Reason}

-- the decisions on the characters of the first n blocks
unfoldable pub heard_characters : ℕ → List ℕ → ℕ → List Character
heard_characters b tones n = joined (λ k. characters_of b (block_at tones k)) n

-- of all blocks
unfoldable pub message_characters : ℕ → List ℕ → List Character
message_characters b tones = heard_characters b tones (length tones / 64)

-- ---- the answer

-- for an output of room codes; 10 by the decisions on all characters, so that its place counts from the text's start
unfoldable pub decode_message : ℕ → ℕ → ℕ → List ℕ → ℕ → Answered ℕ
decode_message limit b m tones room =
    cond (not (is_mode b)) (Err (refused_at Reason.Mode 0))
    (cond (not (is_lead m)) (Err (refused_at Reason.LeastLead 0))
    (cond (not (is_whole limit b (length tones))) (Err (refused_at Reason.ToneCount 0))
    (cond (ltb room (length tones / 64 * b)) (Err (refused_at Reason.Room 0))
    (cond (ltb (first_bad_tone (2 ^ b) tones) (length tones)) (Err (refused_at Reason.Tone (first_bad_tone (2 ^ b) tones)))
    (unless_unclear m (message_characters b tones) (delivery limit b (codes_of (message_characters b tones))))))))

-- the output after it: the first n codes at its front, or as it was
unfoldable pub message_decoded_into : ℕ → ℕ → ℕ → List ℕ → List ℕ → List ℕ
message_decoded_into limit b m tones out = heard_into (decode_message limit b m tones (length out)) (codes_of (message_characters b tones)) out
