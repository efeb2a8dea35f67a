-- What the block encoder writes for block k of a text, and a loop's turn that puts it after the blocks before.
use mathlib.Core.Path.{◌≡◌, ◌∙◌}
use mathlib.Core.Bool.{true}
use mathlib.Core.List.{List, ◌++◌}
use Prim.Native.Nat.{ℕ, ◌+◌, ◌-◌, ◌*◌, ◌≤◌}
use native.Mathlib.Omega.{arith}
use lib.ListN.{length, take, drop, replicate}
use Rattle.lists.specs.Lists.{tab, num, over}
use Rattle.lists.proofs.Fronts.{over_whole, take_over, over_part}
use Rattle.lists.proofs.Joins.{joined_more}
use Rattle.lists.proofs.Tables.{tab_length}
use Rattle.refusal.specs.Checks.{is_mode}
use Rattle.chain.specs.Chain.{tones_of}
use Rattle.chain.proofs.Tones.{tones_length}
use Rattle.block_encoder.specs.Encoding.{encoded_into}
use Rattle.block_encoder.proofs.Ranges.{text_in_range}
use Rattle.block_encoder.proofs.EncodeCases.{encodes, tones_written}
use Rattle.message_encoder.specs.Encoding.{block_codes, sent_tones, first_bad_text_code}
use Rattle.message_encoder.proofs.SentBlocks.{sent_count, block_text_lem}

-- what is written over a part of 64 tones: the block's
pub block_written : (b : ℕ) (text : List ℕ) (k : ℕ) (part : List ℕ) → is_mode b ≡ true → length text ≤ first_bad_text_code text → length part ≡ 64
    → encoded_into b (block_codes b text k) part ≡ tones_of b (block_codes b text k)
block_written b text k part e good n =
    let t = block_text_lem text good b k in
    tones_written b (block_codes b text k) part (encodes b (block_codes b text k) (length part) e t.count (omega arith) (text_in_range b (block_codes b text k) t))
    ∙ over_whole (tones_of b (block_codes b text k)) part (omega (arith, tones_length b (block_codes b text k)))

-- the codes handed on for block k
pub codes_handed : (b : ℕ) (text : List ℕ) (k : ℕ) → take b (over (tab (λ q. num text (k * b + q)) b) (replicate 8 0)) ≡ block_codes b text k
unfolding block_codes
codes_handed b text k = take_over (tab (λ q. num text (k * b + q)) b) (replicate 8 0) b (tab_length (λ q. num text (k * b + q)) b)

-- the tones with the next block put
pub blocks_more : (b : ℕ) (text : List ℕ) (k : ℕ) (tones last rest : List ℕ) → tones ≡ over (sent_tones b text k) rest → last ≡ tones_of b (block_codes b text k)
    → take (64 * k) tones ++ (last ++ drop (64 * k + 64 - 64 * k) (drop (64 * k) tones)) ≡ over (sent_tones b text (k + 1)) rest
unfolding sent_tones
blocks_more b text k tones last rest e p =
    let step : 64 * k + 64 - 64 * k ≡ 64 = omega arith in
    rw (step, p, joined_more)
    (over_part (sent_tones b text k) (tones_of b (block_codes b text k)) rest tones (64 * k) 64 (sent_count b text k) (tones_length b (block_codes b text k)) e)
