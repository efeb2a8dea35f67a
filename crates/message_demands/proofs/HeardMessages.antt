-- A message that breaks no limit, by what its blocks are heard as by themselves.
use mathlib.Core.Path.{◌≡◌, sym, ◌∙◌, ap, ap₂}
use mathlib.Core.List.{List}
use Prim.Native.Nat.{ℕ, zero, suc, ◌+◌, ◌-◌, ◌*◌, ◌/◌, ◌%◌, ◌<◌, ◌≤◌, ◌^◌}
use native.Mathlib.Decide.{dec_lt}
use native.Mathlib.Nat.{mul-le-mul_right, mod-lt, div-add-mod'}
use native.Mathlib.Numerals.{add-one}
use native.Mathlib.Omega.{arith}
use borrow.Author.Tests.{ltb-true, ltb-false}
use lib.ListN.{length, take}
use lib.Seq.{length-take-le}
use Rattle.lists.specs.Lists.{joined, num}
use Rattle.lists.proofs.Joins.{joined_ext, joined_each}
use Rattle.refusal.specs.Refused.{Answered, unclear_at}
use Rattle.refusal.proofs.Limits.{mode_range}
use Rattle.decision.specs.Decision.{none}
use Rattle.decision.specs.declared.Character.{Character}
use Rattle.weight_range.proofs.Ranges.{has_throughout}
use Rattle.tone_range.specs.Range.{HasTones}
use Rattle.tone_range.proofs.Ranges.{good_tone, good_tones}
use Rattle.block_decoder.specs.Decoding.{plain, characters_of, codes_of, lead_in, first_unclear, decode_block, heard_into}
use Rattle.block_decoder.specs.declared.BlockDecoded.{BlockDecoded}
use Rattle.block_decoder.proofs.Characters.{characters_length, character_at_lem}
use Rattle.block_decoder.proofs.Clarity.{unclear_is, clear_lead, unclear_told}
use Rattle.block_decoder.proofs.Answers.{passed, decided}
use Rattle.demands.proofs.Answers as block
use Rattle.delivery.specs.Delivery.{delivery}
use Rattle.message_encoder.specs.Blocks.{block_at}
use Rattle.message_encoder.proofs.Counts.{whole_blocks, place_room}
use Rattle.message_decoder.specs.Decoding.{heard_characters, message_characters, decode_message, message_decoded_into}
use Rattle.message_decoder.proofs.DecodeCases.{Hearable, judges, text_kept}
use Rattle.message_decoder.proofs.Hearing as hearing
use Rattle.message_decoder.proofs.HeardBlocks.{message_count, heard_at, heard_codes}
use Rattle.message_decoder.proofs.ToneRanges.{block_has_tones}
use Rattle.message_demands.specs.Laws.{BreaksNoLimit, block_heard, block_text, lead_heard, ByBlocks, BlocksHeard, RefusesAsUnclear, Precisely, Clear, OddLeads}
use Rattle.std.proofs.Common.{Ok, Err}

module _ (limit b m : ℕ) (tones out own : List ℕ) (ok : BreaksNoLimit limit b m tones out) (h : b ≤ length own) where
  abbrev count : ℕ
  count = length tones / 64

  abbrev characters : List Character
  characters = message_characters b tones

  -- every block is accepted
  abbrev AllClear : ℕ → Type 0
  AllClear n = (k : ℕ) → k < n → (block_heard b m tones own k).answer ≡ Ok b

  pub hearable : Hearable limit b m tones (length out)
  hearable = record {
    passed = record { mode = ok.settings.mode; lead = ok.settings.lead; whole = ok.whole; fits = ok.room };
    in_range = good_tones (2 ^ b) tones (λ t l. good_tone (2 ^ b) (num tones t) (ok.each t l));
  }

  in_range : (k : ℕ) → k < count → HasTones (2 ^ b) (block_at tones k)
  in_range k l = block_has_tones tones count k (whole_blocks limit b (length tones) ok.whole) l b hearable.in_range

  -- ---- by the blocks' answers

  own_size : length (take b own) ≡ b
  own_size = length-take-le b own h

  -- an output longer than b changes nothing
  same_heard : (k : ℕ) → k < count → decode_block b m (block_at tones k) (length (take b own)) ≡ block_heard b m tones own k
  same_heard k l =
      decided b m (block_at tones k) (length (take b own)) ok.settings (in_range k l) (omega (arith, own_size))
      ∙ sym (decided b m (block_at tones k) (length own) ok.settings (in_range k l) h)

  same_answer : (k : ℕ) (d : Answered ℕ) → k < count → (block_heard b m tones own k).answer ≡ d
      → (decode_block b m (block_at tones k) (length (take b own))).answer ≡ d
  same_answer k d l e = ap (λ (x : BlockDecoded). x.answer) (same_heard k l) ∙ e

  clear_below : (k : ℕ) → k ≤ count → AllClear k → hearing.Clear b m tones k
  clear_below zero l f = λ i g. absurd (omega arith)
  clear_below (suc k) l f =
      rw add-one at
      (hearing.block_clear b m tones k (take b own) ok.settings (in_range k l) own_size (clear_below k (omega arith) (λ j g. f j (omega arith))) b
      (same_answer k (Ok b) l (f k (omega arith))))

  codes_heard : AllClear count → codes_of characters ≡ joined (block_text b m tones own) count
  unfolding message_characters
  codes_heard f =
      heard_codes b tones count
      ∙ joined_ext (λ k. codes_of (characters_of b (block_at tones k))) (block_text b m tones own) count (λ k l. sym (block.written_text b m (block_at tones k) own (f k l)))

  all_clear : AllClear count → decode_message limit b m tones (length out) ≡ delivery limit b (joined (block_text b m tones own) count)
  unfolding message_characters
  all_clear f =
      judges limit b m tones (length out) hearable
      ∙ hearing.clear_heard b m tones count _ (clear_below count (omega arith) f)
      ∙ ap (delivery limit b) (codes_heard f)

  by_blocks : ByBlocks limit b m tones out own
  unfolding message_characters message_decoded_into
  by_blocks = record {
    unclear = λ k r l before e.
        judges limit b m tones (length out) hearable
        ∙ hearing.block_refused b m tones k (take b own) ok.settings (in_range k l) own_size (clear_below k (omega arith) before) count _ l r
        (same_answer k (Err r) l e);
    clear = all_clear;
    written = λ f. ap (λ (x : List ℕ). heard_into (decode_message limit b m tones (length out)) x out) (codes_heard f);
  }

  -- ---- by the characters' leads

  pub lead_in_lem : (k q : ℕ) → k < count → q < b → lead_heard b m tones own k q ≡ lead_in characters (k * b + q)
  unfolding message_characters
  lead_in_lem k q l g =
      block.lead_decided 1 b m (block_at tones k) plain own (passed b m (block_at tones k) (length own) ok.settings (in_range k l).count h) (in_range k l) (has_throughout 1 1 (omega arith)) q g
      ∙ sym (ap (λ (c : Character). c.lead) (heard_at b tones count k q l g))

  pub refuses : first_unclear m characters < count * b → RefusesAsUnclear limit b m tones out own
  refuses l =
      let p : ℕ = first_unclear m characters in
      let low : 1 ≤ b = (mode_range b ok.settings.mode).0 in
      let size : length characters ≡ count * b = message_count b tones in
      let split : p ≡ p / b * b + p % b = sym (div-add-mod' p b) in
      let place : p % b < b = mod-lt p low in
      let inside : p / b < count = below (p / b) (p % b) (omega arith) in
      let first = unclear_is m characters in
      let lead : lead_heard b m tones own (p / b) (p % b) ≡ lead_in characters p = lead_in_lem (p / b) (p % b) inside place ∙ ap (lead_in characters) (sym split) in
      let told : decode_message limit b m tones (length out) ≡ Err (unclear_at (p / b * b + p % b) (lead_heard b m tones own (p / b) (p % b))) =
      judges limit b m tones (length out) hearable
      ∙ unclear_told m characters _ (omega arith)
      ∙ ap₂ (λ (i n : ℕ). Err (unclear_at i n)) split (sym lead) in
      record {
        block = p / b;
        place = p % b;
        block_inside = inside;
        place_inside = place;
        refused = told;
        unclear = omega (arith, lead, ltb-true (lead_in characters p) m (first.holds (omega arith)));
        lowest = λ k q g before.
            omega (arith, lead_in_lem k q (below k q (omega arith)) g, ltb-false (lead_in characters (k * b + q)) m (first.lowest (k * b + q) (omega arith)));
        kept = text_kept limit b m tones out told;
      }
    where
      -- a place within the text is in one of its blocks
      below : (k q : ℕ) → k * b + q < count * b → k < count
      below k q g = by (dec_lt k count)
        where
          by : Dec (k < count) → k < count
          by (yes d) = d
          by (no d) = absurd (omega (arith, mul-le-mul_right {m = count} {n = k} b (omega arith)))

  precisely : Precisely limit b m tones out own
  precisely = record {
    unclear = λ k q l g u. by k q l g u (dec_lt (first_unclear m characters) (count * b));
    clear = λ f. all_clear (λ k l. ((block.clear).precisely b m (block_at tones k) own ok.settings (in_range k l) h).clear (λ q g. f k q l g));
  }
    where
      by : (k q : ℕ) → k < count → q < b → lead_heard b m tones own k q < m → Dec (first_unclear m characters < count * b) → RefusesAsUnclear limit b m tones out own
      by k q l g u (yes d) = refuses d
      by k q l g u (no d) =
          let size : length characters ≡ count * b = message_count b tones in
          absurd (omega (arith, lead_in_lem k q l g, clear_lead m characters (omega arith) (k * b + q) (omega (arith, place_room k count b l))))

pub blocks_heard : BlocksHeard
blocks_heard = record { by_blocks = by_blocks }

pub clear : Clear
clear = record { precisely = precisely }

-- ---- odd leads

lead_even : (b : ℕ) (tones : List ℕ) (i : ℕ) → i < length (message_characters b tones) → lead_in (message_characters b tones) i % 2 ≡ 0
unfolding message_characters heard_characters
lead_even b tones i l =
    joined_each (λ k. characters_of b (block_at tones k)) b (λ k. characters_length b (block_at tones k) plain) none (λ c. c.lead % 2 ≡ 0) (length tones / 64)
    (λ k q g h. ap (λ (c : Character). c.lead % 2) (character_at_lem b (block_at tones k) plain q h) ∙ block.lead_even b (block_at tones k) q) i
    (omega (arith, message_count b tones))

odd_as_even : (limit b k : ℕ) (tones : List ℕ) (room : ℕ) → decode_message limit b (2 * k - 1) tones room ≡ decode_message limit b (2 * k) tones room
unfolding decode_message
odd_as_even limit b k tones room =
    rw (block.odd_limit k, block.odd_answer k (message_characters b tones) (lead_even b tones) (delivery limit b (codes_of (message_characters b tones))))

pub odd_leads : OddLeads
odd_leads = record { even = odd_as_even }
