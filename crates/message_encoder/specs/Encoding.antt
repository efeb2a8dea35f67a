-- What encoding a message of at most limit codes answers and leaves in the output. Checks when sending: 1, 5, 9, 6.
use Rattle.std.specs.Prelude.{Bool, cond, not, List, ℕ, ◌+◌, ◌*◌, ltb, length, Ok, Err}
use Rattle.lists.specs.Lists.{tab, joined, num}
use Rattle.lists.specs.Places.{first}
use Rattle.refusal.specs.Refused.{Answered, refused_at}
use Rattle.refusal.specs.Checks.{within, is_mode}
use Rattle.chain.specs.Chain.{tones_of}
use Rattle.block_encoder.specs.Encoding.{sent_into}
use Rattle.message_encoder.specs.Blocks.{block_count}
use Rattle.refusal.specs.declared.Reason.{Reason}

-- the b codes of block k; past the end of the text stands code 0, which fills the last block
unfoldable pub block_codes : ℕ → List ℕ → ℕ → List ℕ
block_codes b text k = tab (λ q. num text (k * b + q)) b

-- the tones of the first n blocks
unfoldable pub sent_tones : ℕ → List ℕ → ℕ → List ℕ
sent_tones b text n = joined (λ k. tones_of b (block_codes b text k)) n

-- a code that is not from 1 to 127
abbrev pub bad_text_code : List ℕ → ℕ → Bool
bad_text_code text i = not (within 1 127 (num text i))

-- the lowest place of such a code, else the count of codes
unfoldable pub first_bad_text_code : List ℕ → ℕ
first_bad_text_code text = first (bad_text_code text) (length text)

-- the answer for an output of room tones
unfoldable pub encode_message : ℕ → ℕ → List ℕ → ℕ → Answered ℕ
encode_message limit b text room =
    cond (not (is_mode b)) (Err (refused_at Reason.Mode 0))
    (cond (ltb limit (length text)) (Err (refused_at Reason.CodeCount 0))
    (cond (ltb room (64 * block_count b (length text))) (Err (refused_at Reason.Room 0))
    (cond (ltb (first_bad_text_code text) (length text)) (Err (refused_at Reason.Code (first_bad_text_code text)))
    (Ok (64 * block_count b (length text))))))

-- the output after it: the tones of all blocks at its front, or as it was
unfoldable pub message_encoded_into : ℕ → ℕ → List ℕ → List ℕ → List ℕ
message_encoded_into limit b text out = sent_into (encode_message limit b text (length out)) (sent_tones b text (block_count b (length text))) out
