-- What the block decoder answers and writes for block k of a message, and a loop's turn that takes it after the blocks before.
use mathlib.Core.Path.{◌≡◌, refl, sym, ◌∙◌, ap}
use mathlib.Core.List.{List, ◌++◌}
use Prim.Native.Nat.{ℕ, ◌+◌, ◌-◌, ◌*◌, ◌<◌, ◌≤◌, ◌^◌}
use native.Mathlib.Decide.{dec_lt}
use native.Mathlib.Omega.{arith}
use borrow.Author.Tests.{lt-ltb, le-ltb, ltb-true, ltb-false}
use lib.Dec.{ltb}
use lib.ListN.{length, take, drop}
use lib.Seq.{take_all}
use Rattle.lists.specs.Lists.{over}
use Rattle.lists.proofs.Fronts.{over_whole, over_fits, take_over, over_part}
use Rattle.lists.proofs.Joins.{joined_more}
use Rattle.lists.proofs.Places.{first_at}
use Rattle.refusal.specs.Refused.{Answered, unclear_at}
use Rattle.refusal.specs.Checks.{IsSet}
use Rattle.refusal.specs.declared.Refusal.{Refusal}
use Rattle.decision.specs.declared.Character.{Character}
use Rattle.tone_range.specs.Range.{HasTones}
use Rattle.block_decoder.specs.Decoding.{plain, characters_of, codes_of, lead_in, first_unclear, unless_unclear, decode_block, decoded_into}
use Rattle.block_decoder.specs.declared.BlockDecoded.{BlockDecoded}
use Rattle.block_decoder.proofs.Characters.{characters_length, codes_length}
use Rattle.block_decoder.proofs.Clarity.{text_refused, unclear_is, all_clear, clear_lead, unclear_told, clear_told}
use Rattle.block_decoder.proofs.DecodeCases.{accepted, codes_written}
use Rattle.block_decoder.proofs.Answers.{decided}
use Rattle.message_encoder.specs.Blocks.{block_at}
use Rattle.message_encoder.proofs.Counts.{next_place, place_room}
use Rattle.message_decoder.specs.Decoding.{heard_characters}
use Rattle.message_decoder.proofs.HeardBlocks.{heard_count, heard_before, heard_at, heard_codes, heard_codes_length}
use Rattle.std.proofs.Common.{Ok, Err}

-- ---- the whole text, by what is known of its blocks

module _ (b m : ℕ) (tones : List ℕ) where
  -- every character of the first k blocks is clear
  abbrev pub Clear : ℕ → Type 0
  Clear k = (i : ℕ) → i < k * b → m ≤ lead_in (heard_characters b tones k) i

  pub clear_heard : (n : ℕ) (clear : Answered ℕ) → Clear n → unless_unclear m (heard_characters b tones n) clear ≡ clear
  clear_heard n clear h =
      clear_told m (heard_characters b tones n) clear (all_clear m (heard_characters b tones n) (λ i l. h i (omega (arith, heard_count b tones n))))

module _ (b m : ℕ) (tones : List ℕ) (k n : ℕ) (inside : k < n) where
  abbrev characters : List Character
  characters = characters_of b (block_at tones k)

  lead_at : (q : ℕ) → q < b → lead_in (heard_characters b tones n) (k * b + q) ≡ lead_in characters q
  lead_at q h = ap (λ (c : Character). c.lead) (heard_at b tones n k q inside h)

  lead_before : Clear b m tones k → (i : ℕ) → i < k * b → m ≤ lead_in (heard_characters b tones n) i
  lead_before before i h = omega (arith, ap (λ (c : Character). c.lead) (heard_before b tones n k i (omega arith) h), before i h)

  -- the lowest unclear character of the text is that of the first block with one
  unclear_here : (clear : Answered ℕ) → Clear b m tones k → first_unclear m characters < b
      → unless_unclear m (heard_characters b tones n) clear ≡ Err (unclear_at (k * b + first_unclear m characters) (lead_in characters (first_unclear m characters)))
  unfolding first_unclear
  unclear_here clear before h =
      let p : ℕ = first_unclear m characters in
      let size : length (heard_characters b tones n) ≡ n * b = heard_count b tones n in
      let first = unclear_is m characters in
      let unclear : lead_in characters p < m = ltb-true (lead_in characters p) m (first.holds (omega (arith, characters_length b (block_at tones k) plain))) in
      let place : first_unclear m (heard_characters b tones n) ≡ k * b + p =
      first_at (λ i. ltb (lead_in (heard_characters b tones n) i) m) (length (heard_characters b tones n)) (k * b + p) (omega (arith, place_room k n b inside))
      (lt-ltb (lead_in (heard_characters b tones n) (k * b + p)) m (rw (lead_at p h) unclear))
      (λ i l. le-ltb (lead_in (heard_characters b tones n) i) m (earlier i l (dec_lt i (k * b)))) in
      unclear_told m (heard_characters b tones n) clear (omega (arith, place, place_room k n b inside))
      ∙ ap (λ (i : ℕ). Err (unclear_at i (lead_in (heard_characters b tones n) i))) place
      ∙ ap (λ (l : ℕ). Err (unclear_at (k * b + p) l)) (lead_at p h)
    where
      earlier : (i : ℕ) → i < k * b + first_unclear m characters → Dec (i < k * b) → m ≤ lead_in (heard_characters b tones n) i
      earlier i l (yes g) = lead_before before i g
      earlier i l (no g) =
          let e : k * b + (i - k * b) ≡ i = omega arith in
          let q : i - k * b < first_unclear m characters = omega arith in
          let lead : m ≤ lead_in (heard_characters b tones n) (k * b + (i - k * b)) =
          rw (lead_at (i - k * b) (omega arith)) (ltb-false (lead_in characters (i - k * b)) m ((unclear_is m characters).lowest (i - k * b) q)) in
          rw e at lead

-- ---- block k

same_refusal : {r s : Refusal} → ◌≡◌ {A = Answered ℕ} (Err r) (Err s) → r ≡ s
same_refusal e = cc

module _ (b m : ℕ) (tones : List ℕ) (k : ℕ) (part : List ℕ) (s : IsSet b m) (w : HasTones (2 ^ b) (block_at tones k)) (size : length part ≡ b) (before : Clear b m tones k) where
  abbrev block : List Character
  block = characters_of b (block_at tones k)

  answer : (decode_block b m (block_at tones k) (length part)).answer ≡ unless_unclear m block (Ok b)
  answer = ap (λ (d : BlockDecoded). d.answer) (decided b m (block_at tones k) (length part) s w (omega arith))

  -- a refusal is that of the block's lowest unclear character
  unclear : (r : Refusal) → (decode_block b m (block_at tones k) (length part)).answer ≡ Err r
      → (first_unclear m block < b) × (r ≡ unclear_at (first_unclear m block) (lead_in block (first_unclear m block)))
  unclear r e = by (dec_lt (first_unclear m block) b)
    where
      by : Dec (first_unclear m block < b) → (first_unclear m block < b) × (r ≡ unclear_at (first_unclear m block) (lead_in block (first_unclear m block)))
      by (yes l) = (l, same_refusal (sym e ∙ answer ∙ unclear_told m block (Ok b) (omega (arith, characters_length b (block_at tones k) plain))))
      by (no l) = absurd (text_refused (sym (answer ∙ clear_told m block (Ok b) (omega (arith, characters_length b (block_at tones k) plain))) ∙ e))

  pub refused_inside : (r : Refusal) → (decode_block b m (block_at tones k) (length part)).answer ≡ Err r → r.place < b
  refused_inside r e = let u = unclear r e in rw u.1 u.0

  -- the same, at its place in the text
  pub block_refused : (n : ℕ) (clear : Answered ℕ) → k < n → (r : Refusal) → (decode_block b m (block_at tones k) (length part)).answer ≡ Err r
      → unless_unclear m (heard_characters b tones n) clear ≡ Err (unclear_at (k * b + r.place) r.lead)
  block_refused n clear inside r e =
      let u = unclear r e in
      unclear_here b m tones k n inside clear before u.0 ∙ ap (λ (x : Refusal). Err (unclear_at (k * b + x.place) x.lead)) (sym u.1)

  module _ (count : ℕ) (e : (decode_block b m (block_at tones k) (length part)).answer ≡ Ok count) where
    pub block_clear : Clear b m tones (k + 1)
    block_clear i h = by (dec_lt i (k * b))
      where
        by : Dec (i < k * b) → m ≤ lead_in (heard_characters b tones (k + 1)) i
        by (yes l) = lead_before b m tones k (k + 1) (omega arith) before i l
        by (no l) =
            let q : i - k * b < b = omega (arith, next_place k b (k * b) refl) in
            let here : m ≤ lead_in (heard_characters b tones (k + 1)) (k * b + (i - k * b)) =
            rw (lead_at b m tones k (k + 1) (omega arith) (i - k * b) q)
            (clear_lead m block (accepted 1 b m (block_at tones k) plain (length part) count e).clear (i - k * b) (omega (arith, characters_length b (block_at tones k) plain))) in
            let at : k * b + (i - k * b) ≡ i = omega arith in
            rw at at here

    -- what is written over a part of b codes: the block's
    pub block_codes_lem : decoded_into b m (block_at tones k) part ≡ codes_of block
    block_codes_lem =
        let whole : count ≡ b = (accepted 1 b m (block_at tones k) plain (length part) count e).whole in
        let codes : length (codes_of block) ≡ b = codes_length b (block_at tones k) plain in
        codes_written 1 b m (block_at tones k) plain part e
        ∙ ap (λ (x : List ℕ). over x part) (take_all count (codes_of block) (omega arith))
        ∙ over_whole (codes_of block) part (omega arith)

-- ---- the codes collected

-- the codes with the next block's put
pub codes_more : (b : ℕ) (tones : List ℕ) (k : ℕ) (codes last rest : List ℕ) → codes ≡ over (codes_of (heard_characters b tones k)) rest
    → last ≡ codes_of (characters_of b (block_at tones k))
    → take (k * b) codes ++ (last ++ drop (k * b + b - k * b) (drop (k * b) codes)) ≡ over (codes_of (heard_characters b tones (k + 1))) rest
codes_more b tones k codes last rest e p =
    let step : k * b + b - k * b ≡ b = omega arith in
    let block : List ℕ = codes_of (characters_of b (block_at tones k)) in
    let more : codes_of (heard_characters b tones (k + 1)) ≡ codes_of (heard_characters b tones k) ++ block =
    heard_codes b tones (k + 1) ∙ joined_more (λ i. codes_of (characters_of b (block_at tones i))) k ∙ ap (λ (x : List ℕ). x ++ block) (sym (heard_codes b tones k)) in
    rw (step, p, more)
    (over_part (codes_of (heard_characters b tones k)) block rest codes (k * b) b (heard_codes_length b tones k) (codes_length b (block_at tones k) plain) e)

-- the codes collected stand at the front
module _ (b : ℕ) (tones : List ℕ) (n : ℕ) (codes rest : List ℕ) (e : codes ≡ over (codes_of (heard_characters b tones n)) rest) where
  pub collected_fit : n * b ≤ length codes
  collected_fit = rw e (omega (arith, over_fits (codes_of (heard_characters b tones n)) rest, heard_codes_length b tones n))

  pub collected_front : take (n * b) codes ≡ codes_of (heard_characters b tones n)
  collected_front = rw e (take_over (codes_of (heard_characters b tones n)) rest (n * b) (heard_codes_length b tones n))
