-- The tones sent for a text: their blocks, their range, and no mark among them; and that a message is sendable.
use mathlib.Core.Path.{◌≡◌, refl, ◌∙◌, ap}
use mathlib.Core.Bool.{Bool, true, false, not, ◌&&◌}
use mathlib.Core.List.{List, ◌++◌}
use mathlib.Core.Logic.{◌≢◌}
use Prim.Native.Nat.{ℕ, ◌*◌, ◌<◌, ◌≤◌, ◌^◌}
use native.Mathlib.Omega.{arith}
use lib.Dec.{ltb, leb, eqb}
use lib.ListN.{length, take, drop}
use Rattle.lists.specs.Lists.{joined, num}
use Rattle.lists.proofs.Fronts.{take_over, over_drop}
use Rattle.lists.proofs.Integers.{cond_cases}
use Rattle.lists.proofs.Joins.{joined_length, joined_each, joined_block}
use Rattle.lists.proofs.Places.{first_none}
use Rattle.refusal.specs.Checks.{is_mode}
use Rattle.refusal.proofs.Limits.{mode_range, within_true}
use Rattle.chain.specs.Chain.{missing_mark, tones_of}
use Rattle.chain.proofs.Tones.{tones_length}
use Rattle.tone_range.specs.Range.{bad_tone, first_bad_tone}
use Rattle.tone_range.proofs.Ranges.{tones_in_range, tones_good, good_tones}
use Rattle.block_encoder.specs.Encoding.{sent_into, count_sent, on_air}
use Rattle.demands.specs.Laws.{AreSent}
use Rattle.demands.proofs.Sent.{nothing_sent, tones_sent}
use Rattle.demands.proofs.Demands.{sent_tones_lem}
use Rattle.message_encoder.specs.Blocks.{block_at, block_count}
use Rattle.message_encoder.specs.Encoding.{block_codes, sent_tones, bad_text_code, first_bad_text_code, encode_message, message_encoded_into}
use Rattle.message_encoder.proofs.SentBlocks.{sent_count}
use Rattle.message_encoder.proofs.EncodeCases.{Sendable, refuses_mode, tones_written}
use Rattle.message_demands.specs.Laws.{BlockTones, message_air, NoMark, IsMessage}
use Rattle.refusal.specs.Refused.{Answered}

module _ (b : ℕ) (text : List ℕ) where
  abbrev block_tones : ℕ → List ℕ
  block_tones k = tones_of b (block_codes b text k)

  size : (k : ℕ) → length (block_tones k) ≡ 64
  size k = tones_length b (block_codes b text k)

  pub sent_block : (n k : ℕ) (rest : List ℕ) → k < n → block_at (sent_tones b text n ++ rest) k ≡ block_tones k
  unfolding sent_tones
  sent_block n k rest h = joined_block block_tones 64 size k n rest h

  block_good : (k t : ℕ) → t < 64 → bad_tone (2 ^ b) (block_tones k) t ≡ false
  block_good k t h =
      tones_good (2 ^ b) (block_tones k) (rw (size k) (tones_in_range b (block_tones k) (sent_tones_lem b (block_codes b text k)))) t (rw (size k) h)

  pub sent_in_range : (n : ℕ) → length (sent_tones b text n) ≤ first_bad_tone (2 ^ b) (sent_tones b text n)
  unfolding sent_tones
  sent_in_range n =
      good_tones (2 ^ b) (joined block_tones n)
      (λ t l. joined_each block_tones 64 size 0 (λ tone. leb (2 ^ b) tone && not (eqb tone missing_mark) ≡ false) n (λ k q g h. block_good k q h) t (omega (arith, joined_length block_tones 64 size n)))

-- ---- no mark

module _ (b : ℕ) (text : List ℕ) (n : ℕ) (high : b ≤ 8) where
  each_tone : (P : ℕ → Type 0) → ((k t : ℕ) → t < length (block_tones b text k) → P (num (block_tones b text k) t))
      → (t : ℕ) → t < length (sent_tones b text n) → P (num (sent_tones b text n) t)
  unfolding sent_tones
  each_tone P f t l =
      joined_each (block_tones b text) 64 (size b text) 0 P n (λ k q g h. f k q (omega (arith, size b text k))) t
      (omega (arith, joined_length (block_tones b text) 64 (size b text) n))

  all_sent : AreSent b (sent_tones b text n)
  all_sent = record {
    below = each_tone (λ tone. tone < 2 ^ b) (λ k. (tones_sent b (block_codes b text k) high).below);
    no_mark = each_tone (λ tone. tone ≢ missing_mark) (λ k. (tones_sent b (block_codes b text k) high).no_mark);
  }

sent_without_mark : (limit b : ℕ) (text tones : List ℕ) → AreSent b (message_air limit b text tones)
unfolding on_air message_encoded_into sent_into encode_message
sent_without_mark limit b text tones = by (is_mode b) refl
  where
    count : ℕ
    count = block_count b (length text)

    Sent : Answered ℕ → Type 0
    Sent e = AreSent b (take (count_sent e) (sent_into e (sent_tones b text count) tones))

    by : (t : Bool) → is_mode b ≡ t → Sent (encode_message limit b text (length tones))
    by true mode =
        cond_cases Sent (not (is_mode b)) _ _ (λ _. nothing_sent b tones) (λ _.
        cond_cases Sent (ltb limit (length text)) _ _ (λ _. nothing_sent b tones) (λ _.
        cond_cases Sent (ltb (length tones) (64 * count)) _ _ (λ _. nothing_sent b tones) (λ _.
        cond_cases Sent (ltb (first_bad_text_code text) (length text)) _ _ (λ _. nothing_sent b tones) (λ _.
        rw (take_over (sent_tones b text count) tones (64 * count) (sent_count b text count)) (all_sent b text count (mode_range b mode).1)))))
    by false mode = rw (refuses_mode limit b text (length tones) mode) (nothing_sent b tones)

pub no_mark : NoMark
no_mark = record { sent = sent_without_mark }

-- ---- the encoder's tones

pub block_tones_lem : BlockTones
block_tones_lem = record {
  each = λ limit b text tones n k e h.
      let count = block_count b (length text) in
      ap (λ (x : List ℕ). block_at x k) (tones_written limit b text tones e ∙ over_drop (sent_tones b text count) tones (64 * count) (sent_count b text count))
      ∙ sent_block b text count k (drop (64 * count) tones) h;
}

module _ (limit : ℕ) (text : List ℕ) (message : IsMessage limit text) where
  pub sendable : (b : ℕ) → is_mode b ≡ true → Sendable limit b text
  unfolding first_bad_text_code
  sendable b mode = record {
    mode = mode;
    count = message.count;
    codes =
        omega (
          arith,
          first_none (bad_text_code text) (length text)
              (λ i h. ap not (within_true 1 127 (num text i) (message.low i h) (message.high i h))),
        );
  }
