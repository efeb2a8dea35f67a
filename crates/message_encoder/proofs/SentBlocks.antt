-- The tones sent for a text, and the codes of its blocks: their count, and that they are codes of a block.
use mathlib.Core.Path.{◌≡◌, ◌∙◌}
use mathlib.Core.List.{List}
use Prim.Native.Nat.{ℕ, ◌+◌, ◌*◌, ◌<◌, ◌≤◌}
use native.Mathlib.Decide.{dec_lt}
use native.Mathlib.Nat.{mul_comm}
use native.Mathlib.Omega.{arith}
use borrow.Author.Tests.{not-false}
use lib.ListN.{length, get_or-eq_default}
use Rattle.lists.specs.Lists.{num}
use Rattle.lists.proofs.Joins.{joined_length}
use Rattle.lists.proofs.Places.{first_is}
use Rattle.lists.proofs.Tables.{tab_length, tab_at}
use Rattle.refusal.proofs.Limits.{within_range}
use Rattle.chain.specs.Chain.{tones_of}
use Rattle.chain.proofs.Tones.{tones_length}
use Rattle.block_encoder.specs.Encoding.{IsText}
use Rattle.message_encoder.specs.Encoding.{block_codes, sent_tones, bad_text_code, first_bad_text_code}

module _ (b : ℕ) (text : List ℕ) where
  pub sent_count : (n : ℕ) → length (sent_tones b text n) ≡ 64 * n
  unfolding sent_tones
  sent_count n = joined_length (λ k. tones_of b (block_codes b text k)) 64 (λ k. tones_length b (block_codes b text k)) n ∙ mul_comm n 64

  pub block_code : (k q : ℕ) → q < b → num (block_codes b text k) q ≡ num text (k * b + q)
  unfolding block_codes
  block_code k q h = tab_at (λ i. num text (k * b + i)) 0 b q h

module _ (text : List ℕ) (good : length text ≤ first_bad_text_code text) where
  code_below : (i : ℕ) → num text i < 128
  unfolding first_bad_text_code
  code_below i = by (dec_lt i (length text))
    where
      by : Dec (i < length text) → num text i < 128
      by (yes h) = omega (arith, (within_range 1 127 (num text i) (not-false _ ((first_is (bad_text_code text) (length text)).lowest i (omega arith)))).1)
      by (no h) = omega (arith, get_or-eq_default text 0 {n = i} (omega arith))

  -- the codes that fill the last block are codes of a block too
  pub block_text_lem : (b k : ℕ) → IsText b (block_codes b text k)
  unfolding block_codes
  block_text_lem b k = record { count = tab_length (λ q. num text (k * b + q)) b; codes = λ q h. omega (arith, block_code b text k q h, code_below (k * b + q)) }
