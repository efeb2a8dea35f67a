-- What is answered to a block that breaks no limit: it is refused as unclear precisely when some lead is under m; m odd acts as m + 1.
use mathlib.Core.Path.{◌≡◌, sym, ◌∙◌, ap}
use mathlib.Core.List.{List}
use Prim.Native.Nat.{ℕ, ◌-◌, ◌*◌, ◌<◌, ◌≤◌, ◌%◌, ◌^◌}
use native.Mathlib.Decide.{ℕ_discrete, dec_lt}
use native.Mathlib.Omega.{arith}
use borrow.Author.Tests.{lt-ltb, le-ltb, ltb-true, ltb-false, le-leb, lt-leb, eqb-false}
use lib.Dec.{ltb}
use lib.ListN.{length, take}
use lib.Seq.{take_all}
use Rattle.lists.specs.Lists.{num, over}
use Rattle.lists.proofs.Fronts.{take_over}
use Rattle.lists.proofs.Places.{first_ext}
use Rattle.lists.proofs.Tables.{is_tab}
use Rattle.refusal.specs.Refused.{Answered, unclear_at}
use Rattle.refusal.specs.Checks.{is_lead}
use Rattle.walsh.specs.Words.{corr}
use Rattle.decision.specs.Decision.{decision}
use Rattle.decision.specs.declared.Character.{Character}
use Rattle.decision.proofs.Parities.{parity}
use Rattle.tone_range.specs.Range.{HasTones}
use Rattle.weight_range.specs.Range.{HasWeights}
use Rattle.weight_range.proofs.Ranges.{has_throughout}
use Rattle.block_decoder.specs.Decoding.{plain, symbols_of, count_in, weighted_at, weighted_of, character_at, characters_of, codes_of, lead_in, first_unclear, unless_unclear, heard_block, decode_block, heard_block_into, decoded_into}
use Rattle.block_decoder.specs.declared.BlockDecoded.{BlockDecoded}
use Rattle.block_decoder.proofs.Characters.{characters_length, character_at_lem, same_lead, codes_are, codes_length}
use Rattle.block_decoder.proofs.Clarity.{unclear_is, all_clear, clear_lead, unclear_told, clear_told}
use Rattle.block_decoder.proofs.DecodeCases.{Passed, judged, codes_kept, codes_written}
use Rattle.block_decoder.proofs.Answers.{weighed_up, passed}
use Rattle.demands.specs.Demand.{Gives, RefusesAsUnclear}
use Rattle.demands.specs.Laws.{Precisely, Clear, OddLeads}
use Rattle.std.proofs.Common.{Ok, Err}

-- ---- a block that breaks no limit, with weights up to N

module _ (N b m : ℕ) (tones weights codes : List ℕ) (p : Passed N b m (length tones) (length weights) (length codes)) (w : HasTones (2 ^ b) tones)
    (weighed : HasWeights N weights) where
  abbrev characters : List Character
  characters = weighted_of b tones weights

  abbrev heard : BlockDecoded
  heard = heard_block N b m tones weights (length codes)

  whole : heard ≡ judged b m characters
  whole = weighed_up N b m tones weights (length codes) p w weighed

  count : length characters ≡ b
  count = characters_length b tones weights

  pub lead_decided : (q : ℕ) → q < b → lead_in heard.characters q ≡ lead_in characters q
  lead_decided q l = ap (λ (d : BlockDecoded). lead_in d.characters q) whole ∙ same_lead b tones weights q l

  pub refuses : first_unclear m characters < b → RefusesAsUnclear b m heard codes (heard_block_into N b m tones weights codes)
  refuses l =
      let p = first_unclear m characters in
      let first = unclear_is m characters in
      let answer : heard.answer ≡ Err (unclear_at p (lead_in characters p)) =
      ap (λ (d : BlockDecoded). d.answer) whole ∙ unclear_told m characters (Ok b) (omega (arith, count)) in
      record {
        place = p;
        inside = l;
        refused = answer ∙ ap (λ (n : ℕ). Err (unclear_at p n)) (sym (lead_decided p l));
        unclear = omega (arith, lead_decided p l, ltb-true (lead_in characters p) m (first.holds (omega (arith, count))));
        lowest = λ q g. omega (arith, lead_decided q (omega arith), ltb-false (lead_in characters q) m (first.lowest q g));
        kept = codes_kept N b m tones weights codes answer;
      }

  accepts : length characters ≤ first_unclear m characters → heard.answer ≡ Ok b
  accepts l = ap (λ (d : BlockDecoded). d.answer) whole ∙ clear_told m characters (Ok b) l

  -- an accepted block whose decisions are the codes of a text gives it
  pub gives : (text : List ℕ) → length text ≡ b → ((q : ℕ) → q < b → (weighted_at b tones weights q).code ≡ num text q) → length characters ≤ first_unclear m characters
      → Gives b text heard codes (heard_block_into N b m tones weights codes)
  gives text n f l = record {
    accepted = accepts l;
    written =
        codes_written N b m tones weights codes (accepts l)
        ∙ ap (λ (x : List ℕ). over x codes)
        (take_all b (codes_of characters) (omega (arith, codes_length b tones weights))
        ∙ codes_are b tones weights
        ∙ sym (is_tab (λ q. (weighted_at b tones weights q).code) 0 b text n (λ q g. sym (f q g))));
  }

  pub precisely : Precisely b m heard codes (heard_block_into N b m tones weights codes)
  precisely = record {
    unclear = λ q l g. by q l g (dec_lt (first_unclear m characters) b);
    clear = λ f. accepts (all_clear m characters (λ q l. omega (arith, lead_decided q (omega (arith, count)), f q (omega (arith, count)))));
  }
    where
      by : (q : ℕ) → q < b → lead_in heard.characters q < m → Dec (first_unclear m characters < b)
          → RefusesAsUnclear b m heard codes (heard_block_into N b m tones weights codes)
      by q l g (yes k) = refuses k
      by q l g (no n) = absurd (omega (arith, lead_decided q l, clear_lead m characters (omega (arith, count)) q (omega (arith, count))))

-- ---- plain hearing

-- the codes that an accepted block writes
pub written_text : (b m : ℕ) (tones codes : List ℕ) → (decode_block b m tones (length codes)).answer ≡ Ok b
    → take b (decoded_into b m tones codes) ≡ codes_of (characters_of b tones)
written_text b m tones codes answer =
    ap (take b) (codes_written 1 b m tones plain codes answer)
    ∙ ap (λ (x : List ℕ). take b (over x codes)) (take_all b (codes_of (characters_of b tones)) (omega (arith, codes_length b tones plain)))
    ∙ take_over (codes_of (characters_of b tones)) codes b (codes_length b tones plain)

pub clear : Clear
clear = record {
  precisely = λ b m tones codes s w h.
      precisely 1 b m tones plain codes (passed b m tones (length codes) s w.count h) w (has_throughout 1 1 (omega arith));
}

-- ---- odd leads

pub lead_even : (b : ℕ) (tones : List ℕ) (q : ℕ) → (character_at b tones q).lead % 2 ≡ 0
unfolding weighted_at
lead_even b tones q =
    omega (arith, eqb-false ((decision (corr (count_in b (symbols_of tones) plain q))).lead % 2) 1 (parity.leads (count_in b (symbols_of tones) plain q)))

module _ (k : ℕ) where
  odd_test : (n : ℕ) → n % 2 ≡ 0 → ltb n (2 * k - 1) ≡ ltb n (2 * k)
  odd_test n e = by (dec_lt n (2 * k))
    where
      by : Dec (n < 2 * k) → ltb n (2 * k - 1) ≡ ltb n (2 * k)
      by (yes l) = lt-ltb n (2 * k - 1) (omega arith) ∙ sym (lt-ltb n (2 * k) l)
      by (no g) = le-ltb n (2 * k - 1) (omega arith) ∙ sym (le-ltb n (2 * k) (omega arith))

  pub odd_limit : is_lead (2 * k - 1) ≡ is_lead (2 * k)
  odd_limit = by (ℕ_discrete k 0) (dec_lt k 33)
    where
      by : Dec (k ≡ 0) → Dec (k < 33) → is_lead (2 * k - 1) ≡ is_lead (2 * k)
      by (yes e) d = rw e
      by (no g) (yes l) = rw (le-leb 1 (2 * k - 1) (omega arith), le-leb (2 * k - 1) 64 (omega arith), le-leb 1 (2 * k) (omega arith), le-leb (2 * k) 64 (omega arith))
      by (no g) (no l) = rw (le-leb 1 (2 * k - 1) (omega arith), lt-leb (2 * k - 1) 64 (omega arith), le-leb 1 (2 * k) (omega arith), lt-leb (2 * k) 64 (omega arith))

  module _ (characters : List Character) (even : (i : ℕ) → i < length characters → lead_in characters i % 2 ≡ 0) where
    odd_unclear : first_unclear (2 * k - 1) characters ≡ first_unclear (2 * k) characters
    unfolding first_unclear
    odd_unclear = first_ext _ _ (length characters) (λ i l. odd_test (lead_in characters i) (even i l))

    pub odd_answer : (clear : Answered ℕ) → unless_unclear (2 * k - 1) characters clear ≡ unless_unclear (2 * k) characters clear
    unfolding unless_unclear
    odd_answer clear = rw odd_unclear

  odd_as_even : (b : ℕ) (tones : List ℕ) (room : ℕ) → decode_block b (2 * k - 1) tones room ≡ decode_block b (2 * k) tones room
  unfolding heard_block
  odd_as_even b tones room =
      rw (odd_limit, odd_answer (characters_of b tones) (λ q l. even q (omega (arith, characters_length b tones plain))) (Ok b))
    where
      even : (q : ℕ) → q < b → lead_in (characters_of b tones) q % 2 ≡ 0
      even q l = ap (λ (c : Character). c.lead % 2) (character_at_lem b tones plain q l) ∙ lead_even b tones q

pub odd_leads : OddLeads
odd_leads = record { even = λ b k. odd_as_even k b }
