-- Accepted clean tones encode back to themselves.
use mathlib.Core.Path.{◌≡◌, refl, sym, ◌∙◌, ap, ap₂}
use mathlib.Core.Bool.{Bool, true, false}
use mathlib.Core.List.{List}
use mathlib.Core.Logic.{⊎_elim}
use Prim.Native.Nat.{ℕ, ◌+◌, ◌<◌, ◌≤◌, ◌%◌, ◌^◌}
use native.Mathlib.Nat.{lt_of_lt_of_le}
use native.Mathlib.Omega.{arith}
use borrow.Author.Tests.{lt-ltb, le-ltb, eqb-false}
use lib.Dec.{eqb}
use lib.IntN.{pos}
use lib.ListN.{length}
use lib.Pow.{pow_mono}
use Rattle.lists.specs.Lists.{num, over}
use Rattle.lists.proofs.Tables.{tab_at, is_tab}
use Rattle.refusal.specs.Checks.{is_mode}
use Rattle.refusal.proofs.Limits.{mode_range}
use Rattle.walsh.specs.Words.{signed, turned}
use Rattle.decision.specs.Decision.{code_of}
use Rattle.damage.specs.Damage.{sent}
use Rattle.decision.specs.declared.Character.{Character}
use Rattle.chain.specs.Chain.{missing_mark, bit, code_bit, key_bit, sent_bit, symbol_at, gray, tone_at, tones_of}
use Rattle.chain.specs.Tables.{symbol_of}
use Rattle.chain.proofs.Xors.{turned_twice}
use Rattle.chain.proofs.GrayCodes.{gray_code, symbol_below, symbol_marked}
use Rattle.chain.proofs.Interleaving.{symbol_from_bits}
use Rattle.tone_range.specs.Range.{HasTones}
use Rattle.tone_range.proofs.Ranges.{in_range_tones}
use Rattle.weight_range.proofs.Ranges.{weight_throughout}
use Rattle.block_encoder.specs.Encoding.{IsText}
use Rattle.block_encoder.proofs.EncodeCases.{tones_written}
use Rattle.block_decoder.specs.Decoding.{plain, heard_symbol, symbols_of, count_of, count_in, weighted_at, character_at, characters_of, codes_of, lead_in, decode_block}
use Rattle.block_decoder.specs.declared.BlockDecoded.{BlockDecoded}
use Rattle.block_decoder.proofs.Counts.{heard_present, heard_missing, symbol_heard, count_missing, count_present}
use Rattle.block_decoder.proofs.Characters.{character_padded, codes_are, codes_length}
use Rattle.block_decoder.proofs.DecodeCases.{Accepted, accepted, judges}
use Rattle.demands.specs.Laws.{AreClean, CleanBack, Clean}
use Rattle.demands.proofs.Hearings.{word_of, sign_of, sent_code, plain_within}
use Rattle.demands.proofs.Agreement.{CleanCounts, clean_counts}
use Rattle.demands.proofs.Answers.{written_text}
use Rattle.demands.proofs.Sent.{sends}
use Rattle.std.proofs.Common.{Ok}

-- ---- a code from its word and sign

code_word : (w : ℕ) (s : Bool) → w < 64 → (word_of (code_of w s) ≡ w) × (sign_of (code_of w s) ≡ s)
code_word w false h = rw (lt-ltb w 64 h) (refl, refl)
code_word w true h = rw (le-ltb (w + 64) 64 (omega arith)) (omega arith, refl)

code_below : (w : ℕ) (s : Bool) → w < 64 → code_of w s < 128
code_below w true h = omega arith
code_below w false h = omega arith

-- ---- a count that is no 0 tells its bit

signed_same : (a b : Bool) → signed a (pos 1) ≡ signed b (pos 1) → a ≡ b
signed_same true true e = refl
signed_same true false e = let z : ◌≡◌ {A = ℕ} 0 1 = cc in absurd (omega arith)
signed_same false true e = let z : ◌≡◌ {A = ℕ} 0 1 = cc in absurd (omega arith)
signed_same false false e = refl

signed_none : (a : Bool) → pos 0 ≡ signed a (pos 1) → ⊥
signed_none true e = let z : ◌≡◌ {A = ℕ} 0 1 = cc in omega arith
signed_none false e = let z : ◌≡◌ {A = ℕ} 0 1 = cc in omega arith

module _ (k : Bool) (place tone : ℕ) (v : Bool) (e : count_of k place 1 (heard_symbol tone) ≡ signed v (pos 1)) where
  counted_present : eqb tone missing_mark ≡ false
  counted_present = by (eqb tone missing_mark) refl
    where
      by : (u : Bool) → eqb tone missing_mark ≡ u → u ≡ false
      by true p = absurd (signed_none v (sym (ap (count_of k place 1) (heard_missing tone p) ∙ count_missing k place 1) ∙ e))
      by false p = refl

  counted_bit : bit (symbol_of tone) place ≡ turned k v
  counted_bit =
      sym (turned_twice k (bit (symbol_of tone) place))
      ∙ ap (turned k) (signed_same (turned k (bit (symbol_of tone) place)) v
      (sym (ap (count_of k place 1) (heard_present tone counted_present) ∙ count_present k place 1 (symbol_of tone) (symbol_marked tone)) ∙ e))

-- ---- a block with every lead 64

-- the codes decided
abbrev pub decided_text : ℕ → List ℕ → List ℕ
decided_text b tones = codes_of (characters_of b tones)

module _ (b : ℕ) (tones : List ℕ) (low : 1 ≤ b) (high : b ≤ 8) (w : HasTones (2 ^ b) tones) (clean : (q : ℕ) → q < b → (character_at b tones q).lead ≡ 64) where
  clean_at : (q : ℕ) → q < b → CleanCounts (count_in b (symbols_of tones) plain q) (plain_within b (symbols_of tones) q)
  unfolding weighted_at
  clean_at q h = clean_counts (count_in b (symbols_of tones) plain q) (plain_within b (symbols_of tones) q) (clean q h)

  code_at : (q : ℕ) → q < b → num (decided_text b tones) q ≡ (character_at b tones q).code
  code_at q h = rw (codes_are b tones plain) (tab_at (λ k. (character_at b tones k).code) 0 b q h)

  pub clean_text : IsText b (decided_text b tones)
  unfolding weighted_at
  clean_text = record {
    count = codes_length b tones plain;
    codes = λ q h. let c = clean_at q h in rw (code_at q h, c.code) (code_below c.word c.sign c.below);
  }

  -- every count is that of the character's code
  count_clean : (q t : ℕ) → q < b → t < 64 → count_of (key_bit q t) ((q + t) % b) 1 (heard_symbol (num tones t)) ≡ signed (code_bit (num (decided_text b tones) q) t) (pos 1)
  unfolding count_in weighted_at
  count_clean q t h l =
      let c = clean_at q h in
      let p = code_word c.word c.sign c.below in
      let e : num (decided_text b tones) q ≡ code_of c.word c.sign = code_at q h ∙ c.code in
      ap₂ (count_of (key_bit q t) ((q + t) % b)) (sym (weight_throughout 1 t l)) (sym (symbol_heard tones t l))
      ∙ c.counts t l
      ∙ ap₂ (λ (x : ℕ) (s : Bool). sent 1 x s t) (sym p.0) (sym p.1)
      ∙ sent_code 1 (code_of c.word c.sign) t
      ∙ ap (λ (v : ℕ). signed (code_bit v t) (pos 1)) (sym e)

  tone_clean : (t : ℕ) → t < 64 → num tones t ≡ tone_at b (decided_text b tones) t
  unfolding tone_at sent_bit
  tone_clean t l =
      let present = counted_present (key_bit 0 t) ((0 + t) % b) (num tones t) (code_bit (num (decided_text b tones) 0) t) (count_clean 0 t low l) in
      let below : num tones t < 2 ^ b = ⊎_elim (λ g. g) (λ e. absurd (eqb-false (num tones t) missing_mark present e)) (w.each t l) in
      let symbol : symbol_of (num tones t) ≡ symbol_at b (decided_text b tones) t =
      symbol_from_bits b (decided_text b tones) t (symbol_of (num tones t)) (symbol_below b (num tones t) high below)
      (λ q h. counted_bit (key_bit q t) ((q + t) % b) (num tones t) (code_bit (num (decided_text b tones) q) t) (count_clean q t h l)) in
      sym (ap gray (sym symbol) ∙ gray_code.tone_of_symbol (num tones t) (lt_of_lt_of_le below (pow_mono {i = b} {j = 8} high)))

  pub clean_tones : tones ≡ tones_of b (decided_text b tones)
  unfolding tones_of
  clean_tones = is_tab (tone_at b (decided_text b tones)) 0 64 tones w.count tone_clean

module _ (b m : ℕ) (tones codes sent : List ℕ) (answer : (decode_block b m tones (length codes)).answer ≡ Ok b)
    (clean : AreClean b (decode_block b m tones (length codes)).characters) (room : 64 ≤ length sent)
    (a : Accepted 1 b m tones plain (length codes) b) where
  mode : is_mode b ≡ true
  mode = a.passed.mode

  in_range : HasTones (2 ^ b) tones
  in_range = in_range_tones b tones a.passed.count a.in_range

  decided_leads : (q : ℕ) → q < b → (character_at b tones q).lead ≡ 64
  decided_leads q h =
      ap (λ (c : Character). c.lead) (sym (character_padded b tones plain q h))
      ∙ ap (λ (d : BlockDecoded). lead_in d.characters q) (sym (judges 1 b m tones plain (length codes) a.passed a.in_range a.weights_in_range))
      ∙ clean.leads q h

  clean_back : CleanBack b m tones codes sent
  clean_back =
      let range = mode_range b mode in
      let accepts = sends b (decided_text b tones) sent mode (clean_text b tones range.0 range.1 in_range decided_leads) room in
      record {
        answer = rw (written_text b m tones codes answer) accepts;
        written =
            rw (written_text b m tones codes answer)
            (tones_written b (decided_text b tones) sent accepts
            ∙ ap (λ (x : List ℕ). over x sent) (sym (clean_tones b tones range.0 range.1 in_range decided_leads)));
      }

pub clean : Clean
clean = record {
  back = λ b m tones codes sent answer clean room. clean_back b m tones codes sent answer clean room (accepted 1 b m tones plain (length codes) b answer);
}
