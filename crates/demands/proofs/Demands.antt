-- Demand 3, for any greatest weight, and plain; and that a text encoded and decoded comes back with every lead 64.
use mathlib.Core.Path.{◌≡◌, ◌∙◌, ap}
use mathlib.Core.Bool.{Bool, true, false, not, ◌&&◌}
use mathlib.Core.List.{List}
use mathlib.Core.Logic.{◌⊎◌, inl, inr}
use Prim.Native.Nat.{ℕ, zero, suc, ◌+◌, ◌*◌, ◌<◌, ◌≤◌, ◌^◌}
use native.Mathlib.Decide.{dec_lt}
use native.Mathlib.Omega.{arith}
use lib.Dec.{ltb, eqb}
use lib.ListN.{length}
use Rattle.lists.specs.Lists.{num}
use Rattle.lists.specs.Sums.{total}
use Rattle.lists.proofs.Tables.{tab_ext}
use Rattle.refusal.specs.Checks.{is_lead_at, is_mode}
use Rattle.refusal.proofs.Limits.{within_range, mode_range}
use Rattle.damage.specs.Laws.{Withstands}
use Rattle.decision.specs.Decision.{none}
use Rattle.decision.specs.declared.Character.{Character}
use Rattle.damage.proofs.Drift.{damage_law}
use Rattle.chain.specs.Chain.{tones_of}
use Rattle.chain.proofs.Tones.{tones_length, tone_sent, tone_below_lem}
use Rattle.tone_range.specs.Range.{HasTones}
use Rattle.weight_range.specs.Range.{HasWeights, throughout}
use Rattle.weight_range.proofs.Ranges.{has_throughout}
use Rattle.block_encoder.specs.Encoding.{IsText}
use Rattle.block_encoder.proofs.EncodeCases.{tones_written}
use Rattle.block_decoder.specs.Decoding.{plain, symbols_of, count_in, weighted_at, weighted_of, character_at, lead_in, first_unclear, padded, heard_block, heard_block_into}
use Rattle.block_decoder.specs.declared.BlockDecoded.{BlockDecoded}
use Rattle.block_decoder.proofs.Characters.{characters_length, character_at_lem}
use Rattle.block_decoder.proofs.Clarity.{all_clear, clear_lead}
use Rattle.block_decoder.proofs.DecodeCases.{Passed}
use Rattle.block_decoder.proofs.Answers.{passed, decided}
use Rattle.demands.specs.Demand.{flag, is_missing, is_replaced, missing_in, replaced_in, damage_in, Gives, RefusesAsUnclear, Demand3}
use Rattle.demands.specs.Laws.{undamaged, RoundTrip}
use Rattle.demands.proofs.Hearings.{word_of, sign_of, word_below, code_of_word, block_damage, no_damage, plain_damage}
use Rattle.demands.proofs.Undamaged.{heard_undamaged}
use Rattle.demands.proofs.Sent.{sends, air_sent}
use Rattle.demands.proofs.Answers.{refuses, gives}

-- ---- one character of a damaged block, with weights up to N

module _ (N b m : ℕ) (text heard weights : List ℕ) (high : b ≤ 8) (low : 1 ≤ m) (codes : IsText b text) (n : length heard ≡ 64)
    (weighed : HasWeights N weights) (q : ℕ) (hq : q < b) where
  law : Withstands N (word_of (num text q)) (sign_of (num text q)) (count_in b (symbols_of heard) weights q) m
  law = damage_law.withstands N (word_of (num text q)) (sign_of (num text q)) (count_in b (symbols_of heard) weights q) m (word_below (num text q) (codes.codes q hq)) low

  code_decided : m + 2 * damage_in N (tones_of b text) heard weights ≤ 64 * N
      → ((weighted_at b heard weights q).code ≡ num text q) × (m ≤ (weighted_at b heard weights q).lead)
  unfolding weighted_at
  code_decided h =
      let d = law.decided (omega (arith, block_damage N b text heard weights high weighed q hq n)) in
      (d.0 ∙ code_of_word (num text q), d.1)

  code_no_other : 2 * damage_in N (tones_of b text) heard weights < 64 * N + m → m ≤ (weighted_at b heard weights q).lead
      → (weighted_at b heard weights q).code ≡ num text q
  unfolding weighted_at
  code_no_other h l = law.no_other (omega (arith, block_damage N b text heard weights high weighed q hq n)) l ∙ code_of_word (num text q)

-- ---- a damaged block

module _ (N b m : ℕ) (text heard weights codes : List ℕ) (p : Passed N b m (length heard) (length weights) (length codes)) (is_text_lem : IsText b text)
    (w : HasTones (2 ^ b) heard) (weighed : HasWeights N weights) where
  abbrev characters : List Character
  characters = weighted_of b heard weights

  lead_heard_lem : (q : ℕ) → q < b → lead_in characters q ≡ (weighted_at b heard weights q).lead
  lead_heard_lem q l = ap (λ (c : Character). c.lead) (character_at_lem b heard weights q l)

  high : b ≤ 8
  high = (mode_range b p.mode).1

  low : 1 ≤ m
  low = (within_range 1 (64 * N) m p.lead).0

  abbrev given : Type 0
  given = Gives b text (heard_block N b m heard weights (length codes)) codes (heard_block_into N b m heard weights codes)

  pub same_text : m + 2 * damage_in N (tones_of b text) heard weights ≤ 64 * N → given
  same_text g =
      gives N b m heard weights codes p w weighed text is_text_lem.count
      (λ q l. (code_decided N b m text heard weights high low is_text_lem w.count weighed q l g).0)
      (all_clear m characters
      (λ q l.
      let k : q < b = omega (arith, characters_length b heard weights) in
      omega (arith, lead_heard_lem q k, (code_decided N b m text heard weights high low is_text_lem w.count weighed q k g).1)))

  pub no_other_text : 2 * damage_in N (tones_of b text) heard weights < 64 * N + m
      → given ⊎ RefusesAsUnclear b m (heard_block N b m heard weights (length codes)) codes (heard_block_into N b m heard weights codes)
  no_other_text g = by (dec_lt (first_unclear m characters) b)
    where
      by : Dec (first_unclear m characters < b)
          → given ⊎ RefusesAsUnclear b m (heard_block N b m heard weights (length codes)) codes (heard_block_into N b m heard weights codes)
      by (yes l) = inr (refuses N b m heard weights codes p w weighed l)
      by (no n) =
          let clear : length characters ≤ first_unclear m characters = omega (arith, characters_length b heard weights) in
          inl (gives N b m heard weights codes p w weighed text is_text_lem.count
          (λ q l. code_no_other N b m text heard weights high low is_text_lem w.count weighed q l g
          (omega (arith, lead_heard_lem q l, clear_lead m characters clear q (omega (arith, characters_length b heard weights)))))
          clear)

-- ---- the block as encoded, heard undamaged

pub sent_tones_lem : (b : ℕ) (text : List ℕ) → HasTones (2 ^ b) (tones_of b text)
sent_tones_lem b text = record { count = tones_length b text; each = λ t l. inl (rw (tone_sent b text t l) (tone_below_lem b text t)) }

pub sent_text : (N b m : ℕ) (text codes : List ℕ) → is_mode b ≡ true → is_lead_at N m ≡ true → IsText b text → b ≤ length codes
    → Gives b text (heard_block N b m (tones_of b text) (throughout N) (length codes)) codes (heard_block_into N b m (tones_of b text) (throughout N) codes)
sent_text N b m text codes mode lead is_text_lem h =
    let full = has_throughout N N (omega arith) in
    same_text N b m text (tones_of b text) (throughout N) codes
    (record { mode = mode; lead = lead; count = tones_length b text; weighed = full.count; fits = h })
    is_text_lem (sent_tones_lem b text) full
    (omega (arith, no_damage N b text (mode_range b mode).1, (within_range 1 (64 * N) m lead).1))

-- ---- the demand

-- no place is both missing and replaced
places_counted : (sent heard : List ℕ) (n : ℕ) → total n (λ t. flag (is_replaced sent heard t)) + total n (λ t. flag (is_missing heard t)) ≤ n
unfolding total
places_counted sent heard zero = omega arith
places_counted sent heard (suc n) =
    omega (arith, places_counted sent heard n, by (ltb n (length sent)) (is_missing heard n) (eqb (num heard n) (num sent n)))
  where
    by : (p u s : Bool) → flag (p && (not u && not s)) + flag u ≤ 1
    by true true s = omega arith
    by true false true = omega arith
    by true false false = omega arith
    by false true s = omega arith
    by false false s = omega arith

damage_places : (sent heard : List ℕ) → length heard ≡ 64 → replaced_in sent heard + missing_in heard ≤ 64
unfolding replaced_in missing_in
damage_places sent heard n = omega (arith, places_counted sent heard (length heard))

pub demand3 : Demand3
demand3 = record {
  met = λ b m text heard tones one two c.
      let sent = sends b text tones c.settings.mode c.codes c.room_sent in
      let full = has_throughout 1 1 (omega arith) in
      let p = passed b m heard (length two) c.settings c.damaged.count c.room_two in
      let at_most = plain_damage (tones_of b text) heard c.damaged.count in
      record {
        accepted = sent;
        sent = tones_written b text tones sent;
        first = sent_text 1 b m text one c.settings.mode c.settings.lead c.codes c.room_one;
        places = damage_places (tones_of b text) heard c.damaged.count;
        same = λ g. same_text 1 b m text heard plain two p c.codes c.damaged full (omega (arith, at_most));
        no_other = λ g. no_other_text 1 b m text heard plain two p c.codes c.damaged full (omega (arith, at_most));
      };
}

-- ---- the round trip

pub sent_character : (b : ℕ) (text : List ℕ) (q : ℕ) → is_mode b ≡ true → IsText b text → q < b → character_at b (tones_of b text) q ≡ undamaged (num text q)
unfolding weighted_at
sent_character b text q mode is_text_lem hq =
    let high : b ≤ 8 = (mode_range b mode).1 in
    let full = has_throughout 1 1 (omega arith) in
    heard_undamaged (num text q) (is_text_lem.codes q hq) (count_in b (symbols_of (tones_of b text)) plain q)
    (omega (arith, block_damage 1 b text (tones_of b text) plain high full q hq (tones_length b text), no_damage 1 b text high))

pub round_trip : RoundTrip
unfolding weighted_of
round_trip = record {
  back = λ b m text tones out s is_text_lem room_sent room-heard.
      let sent = sends b text tones s.mode is_text_lem room_sent in
      let on_air_lem = air_sent b text tones sent in
      record {
        sent = sent;
        given = rw on_air_lem (sent_text 1 b m text out s.mode s.lead is_text_lem room-heard);
        characters =
            rw on_air_lem
            (ap (λ (d : BlockDecoded). d.characters) (decided b m (tones_of b text) (length out) s (sent_tones_lem b text) room-heard)
            ∙ ap padded (tab_ext none (character_at b (tones_of b text)) (λ q. undamaged (num text q)) b (λ q l. sent_character b text q s.mode is_text_lem l)));
      };
}
