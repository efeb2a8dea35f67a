-- Accepted clean tones of a message encode back to themselves.
use mathlib.Core.Path.{◌≡◌, refl, sym, ◌∙◌, ap}
use mathlib.Core.List.{List}
use mathlib.Core.Logic.{◌≢◌}
use Prim.Native.Nat.{ℕ, zero, suc, ◌+◌, ◌*◌, ◌/◌, ◌<◌, ◌≤◌, ◌^◌}
use native.Mathlib.Decide.{dec_lt}
use native.Mathlib.Omega.{arith}
use lib.ListN.{length, take, get_or-eq_default}
use lib.Seq.{get_or-take, length-take-le}
use Rattle.lists.specs.Lists.{joined, num, over}
use Rattle.lists.proofs.Fronts.{take_over}
use Rattle.lists.proofs.Joins.{joined_ext, joined_length, joined_at, joined_each}
use Rattle.lists.proofs.Tables.{is_tab}
use Rattle.refusal.proofs.Limits.{mode_range}
use Rattle.decision.specs.declared.Character.{Character}
use Rattle.chain.specs.Chain.{tones_of}
use Rattle.tone_range.specs.Range.{HasTones}
use Rattle.block_decoder.specs.Decoding.{plain, character_at, codes_of}
use Rattle.block_decoder.proofs.Characters.{character_at_lem, codes_length}
use Rattle.demands.specs.Laws.{AreClean}
use Rattle.demands.proofs.CleanTones.{decided_text, clean_text, clean_tones}
use Rattle.delivery.specs.Delivery.{delivery}
use Rattle.delivery.proofs.TextEnds.{end_within, end_is}
use Rattle.delivery.proofs.TextAnswers.{no_zero_before}
use Rattle.delivery.proofs.TextCases.{Delivered, text_delivered}
use Rattle.message_encoder.specs.Blocks.{block_count, block_at}
use Rattle.message_encoder.specs.Encoding.{block_codes, sent_tones, encode_message}
use Rattle.message_encoder.proofs.Parts.{joined_whole}
use Rattle.message_encoder.proofs.Counts.{count_unique, whole_blocks, place_room}
use Rattle.message_encoder.proofs.EncodeCases.{encodes, tones_written}
use Rattle.message_decoder.specs.Decoding.{message_characters, decode_message}
use Rattle.message_decoder.proofs.DecodeCases.{Heard, heard, text_written}
use Rattle.message_decoder.proofs.ToneRanges.{block_has_tones}
use Rattle.message_decoder.proofs.HeardBlocks.{heard_count, heard_at, heard_codes}
use Rattle.message_demands.specs.Laws.{IsMessage, text_heard, CleanBack, Clean}
use Rattle.message_demands.proofs.SentMessages.{sendable}
use Rattle.std.proofs.Common.{Ok}

-- the codes decided in block k
abbrev decided_in : ℕ → List ℕ → ℕ → List ℕ
decided_in b tones k = decided_text b (block_at tones k)

decided_size : (b : ℕ) (tones : List ℕ) (k : ℕ) → length (decided_in b tones k) ≡ b
decided_size b tones k = codes_length b (block_at tones k) plain

-- the codes decided in the first n blocks
abbrev decided_codes : ℕ → List ℕ → ℕ → List ℕ
decided_codes b tones n = joined (decided_in b tones) n

-- ---- n clean blocks

module _ (b : ℕ) (tones : List ℕ) (n : ℕ) (low : 1 ≤ b) (high : b ≤ 8)
    (in_range : (k : ℕ) → k < n → HasTones (2 ^ b) (block_at tones k))
    (clean : (k q : ℕ) → k < n → q < b → (character_at b (block_at tones k) q).lead ≡ 64) where
  code_small : (i : ℕ) → i < n * b → num (decided_codes b tones n) i < 128
  code_small i h =
      joined_each (decided_in b tones) b (decided_size b tones) 0 (λ c. c < 128) n
      (λ k q g l. (clean_text b (block_at tones k) low high (in_range k g) (λ p. clean k p g)).codes q l) i h

  -- a text whose codes are those decided is sent as these tones
  sent_back : length tones ≡ 64 * n → (text : List ℕ) → ((i : ℕ) → i < n * b → num text i ≡ num (decided_codes b tones n) i) → sent_tones b text n ≡ tones
  unfolding sent_tones block_codes
  sent_back whole text h =
      joined_ext (λ k. tones_of b (block_codes b text k)) (block_at tones) n
      (λ k l. ap (tones_of b) (sym (is_tab (λ q. num text (k * b + q)) 0 b (decided_in b tones k) (decided_size b tones k)
      (λ q g. sym (h (k * b + q) (omega (arith, place_room k n b l)) ∙ joined_at (decided_in b tones) b (decided_size b tones) 0 k n q l g))))
      ∙ sym (clean_tones b (block_at tones k) low high (in_range k l) (λ q. clean k q l)))
      ∙ joined_whole tones n whole

above_zero : (n : ℕ) → n ≢ 0 → 1 ≤ n
above_zero zero h = absurd (h refl)
above_zero (suc n) h = omega arith

-- ---- the tones accepted

module _ (limit b m n : ℕ) (tones out : List ℕ) (answer : decode_message limit b m tones (length out) ≡ Ok n)
    (clean : AreClean (length (message_characters b tones)) (message_characters b tones)) where
  abbrev count : ℕ
  count = length tones / 64

  -- the codes decided, and the text, which ends before the codes that fill its last block
  abbrev codes : List ℕ
  codes = decided_codes b tones count

  abbrev text : List ℕ
  text = take n codes

  h : Heard limit b m tones (length out) n
  h = heard limit b m tones (length out) n answer

  low : 1 ≤ b
  low = (mode_range b h.hearable.passed.mode).0

  high : b ≤ 8
  high = (mode_range b h.hearable.passed.mode).1

  whole : length tones ≡ 64 * count
  whole = whole_blocks limit b (length tones) h.hearable.passed.whole

  in_range : (k : ℕ) → k < count → HasTones (2 ^ b) (block_at tones k)
  in_range k l = block_has_tones tones count k whole l b h.hearable.in_range

  lead_at : (k q : ℕ) → k < count → q < b → (character_at b (block_at tones k) q).lead ≡ 64
  unfolding message_characters
  lead_at k q l g =
      ap (λ (c : Character). c.lead) (sym (heard_at b tones count k q l g ∙ character_at_lem b (block_at tones k) plain q g))
      ∙ clean.leads (k * b + q) (omega (arith, heard_count b tones count, place_room k count b l))

  codes_are : codes_of (message_characters b tones) ≡ codes
  unfolding message_characters
  codes_are = heard_codes b tones count

  size : length codes ≡ count * b
  size = joined_length (decided_in b tones) b (decided_size b tones) count

  text_found : Delivered limit b codes n
  text_found = text_delivered limit b codes n (ap (delivery limit b) (sym codes_are) ∙ h.text)

  ends : n ≤ count * b
  ends = omega (arith, size, text_found.end, end_within codes)

  text_length : length text ≡ n
  text_length = length-take-le n codes (omega (arith, size, ends))

  blocks : block_count b (length text) ≡ count
  blocks = ap (block_count b) text_length ∙ count_unique b n low count ends (omega (arith, size, text_found.filling, ends))

  text_code : (i : ℕ) → i < count * b → num text i ≡ num codes i
  text_code i l = by (dec_lt i n)
    where
      by : Dec (i < n) → num text i ≡ num codes i
      by (yes g) = get_or-take n codes i 0 g
      by (no g) =
          get_or-eq_default text 0 {n = i} (omega (arith, text_length))
          ∙ sym ((end_is codes).zeros i (omega (arith, text_found.end)) (omega (arith, size)))

  message : IsMessage limit text
  message =
      let same : length text ≡ n = text_length in
      record {
        count = omega (arith, text_found.fits);
        low = λ i l. omega (arith, text_code i (omega (arith, ends)), above_zero (num codes i) (no_zero_before codes n text_found.no_zero i (omega arith)));
        high = λ i l. omega (arith, text_code i (omega (arith, ends)), code_small b tones count low high in_range lead_at i (omega (arith, ends)));
      }

  module _ (sent : List ℕ) (room : length tones ≤ length sent) where
    text_heard_lem : text_heard limit b m n tones out ≡ text
    text_heard_lem =
        ap (take n) (text_written limit b m tones out answer)
        ∙ ap (λ (x : List ℕ). take n (over (take n x) out)) codes_are
        ∙ take_over text out n text_length

    accepted : encode_message limit b text (length sent) ≡ Ok (length tones)
    accepted =
        let count_sent_lem : 64 * block_count b (length text) ≡ length tones = omega (arith, blocks, whole) in
        encodes limit b text (length sent) (sendable limit text message b h.hearable.passed.mode) (omega arith) ∙ ap Ok count_sent_lem

    clean_back : CleanBack limit b m n tones out sent
    clean_back = record {
      answer = rw text_heard_lem accepted;
      written =
          rw text_heard_lem
          (tones_written limit b text sent accepted
          ∙ ap (λ (x : List ℕ). over x sent) (ap (sent_tones b text) blocks ∙ sent_back b tones count low high in_range lead_at whole text text_code));
    }

pub clean : Clean
clean = record {
  back = λ limit b m n tones out sent answer clean room. clean_back limit b m n tones out answer clean sent room;
}
