-- Every count and every place that an entry answers with is below 2^32.
use mathlib.Core.Path.{◌≡◌, refl}
use mathlib.Core.Bool.{Bool, true, false, cond, not}
use mathlib.Core.List.{List}
use Prim.Native.Nat.{ℕ, ◌+◌, ◌-◌, ◌*◌, ◌/◌, ◌^◌, ◌<◌, ◌≤◌}
use native.Mathlib.Nat.{le-mul_of_pos_right}
use native.Mathlib.Omega.{arith}
use borrow.Author.Tests.{ltb-true, ltb-false, not-false}
use lib.Dec.{ltb, leb, eqb}
use lib.ListN.{length, length-map}
use Rattle.refusal.specs.Refused.{Answered}
use Rattle.refusal.specs.Checks.{is_lead_at, is_mode, is_lead}
use Rattle.refusal.proofs.Limits.{within_range, mode_range}
use Rattle.decision.specs.declared.Character.{Character}
use Rattle.tone_range.specs.Range.{first_bad_tone}
use Rattle.weight_range.specs.Range.{first_bad_weight}
use Rattle.block_encoder.specs.Encoding.{first_bad_code, encode_block}
use Rattle.block_decoder.specs.Decoding.{weighted_of, codes_of, first_unclear, unless_unclear, refused, heard_block}
use Rattle.block_decoder.specs.declared.BlockDecoded.{BlockDecoded}
use Rattle.block_decoder.proofs.Characters.{characters_length}
use Rattle.delivery.specs.Delivery.{text_end, first_zero, delivery}
use Rattle.delivery.proofs.TextEnds.{end_within}
use Rattle.message_encoder.specs.Blocks.{longest, block_count, is_whole}
use Rattle.message_encoder.specs.Encoding.{first_bad_text_code, encode_message}
use Rattle.message_encoder.proofs.Counts.{count_small, whole_blocks, whole_few}
use Rattle.message_decoder.specs.Decoding.{message_characters, decode_message}
use Rattle.message_decoder.proofs.HeardBlocks.{message_count}
use Rattle.band.specs.Limits.{fault, answered}
use lib.Ieee.Scale.{finite}
use Rattle.band.specs.Locating.{owner_of, in_band, heard_as, settled, located_of}
use Rattle.band.specs.declared.Located.{Located}
use Rattle.band.specs.Frequencies.{frequency_of}
use Rattle.search.specs.Starts.{longest_run, starts}
use Rattle.finder.specs.Finding.{first_start, is_run, found_start, find_block}
use Rattle.energy.specs.Energies.{summed, heard_energies}
use Rattle.energy.specs.Energies as energies
use Rattle.energy.specs.declared.Energies.{Energies}
use Rattle.block_encoder.specs.Checking.{check_codes}
use Rattle.sender.specs.Queues.{Block, reserved, one_more, place_answer, after_check, hand_answer}
use Rattle.told.proofs.Kept.{carried_by, refused_by, located_carries}
use Rattle.std.specs.Prelude.{Float}
use Rattle.std.proofs.Common.{Option, Some, None, Ok}
use Rattle.refusal.specs.declared.Reason.{Reason}

-- what holds of each of two answers holds of the one that a test chooses
either_way : {A : Type 0} (P : A → Type 0) (t : Bool) (x y : A) → (t ≡ true → P x) → (t ≡ false → P y) → P (cond t x y)
either_way P true x y f g = f refl
either_way P false x y f g = g refl

abbrev SmallSent : Answered ℕ → Type 0
SmallSent answer = carried_by answer < 2 ^ 32

abbrev SmallHeard : Answered ℕ → Type 0
SmallHeard answer = carried_by answer < 2 ^ 32

abbrev SmallHeardBlock : BlockDecoded → Type 0
SmallHeardBlock d = SmallHeard d.answer

-- ---- a block

pub block_sent_small : (b : ℕ) (codes : List ℕ) (room : ℕ) → carried_by (encode_block b codes room) < 2 ^ 32
unfolding encode_block
block_sent_small b codes room =
    either_way SmallSent (not (is_mode b)) _ _ (λ _. omega arith) (λ mode.
    either_way SmallSent (not (eqb (length codes) b)) _ _ (λ _. omega arith) (λ _.
    either_way SmallSent (ltb room 64) _ _ (λ _. omega arith) (λ _.
    either_way SmallSent (ltb (first_bad_code codes) b) _ _
    (λ bad. omega (arith, ltb-true (first_bad_code codes) b bad, mode_range b (not-false _ mode)))
    (λ _. omega arith))))

-- of some characters, by their count and by the answer for clear ones
judged_small : (m : ℕ) (characters : List Character) (clear : Answered ℕ) → length characters < 2 ^ 32 → carried_by clear < 2 ^ 32
    → carried_by (unless_unclear m characters clear) < 2 ^ 32
unfolding unless_unclear
judged_small m characters clear few h =
    either_way SmallHeard (ltb (first_unclear m characters) (length characters)) _ _
    (λ unclear. omega (arith, ltb-true (first_unclear m characters) (length characters) unclear))
    (λ _. h)

pub block_heard_small : (N b m : ℕ) (tones weights : List ℕ) (room : ℕ) → carried_by (heard_block N b m tones weights room).answer < 2 ^ 32
unfolding heard_block refused
block_heard_small N b m tones weights room =
    either_way SmallHeardBlock (not (is_mode b)) _ _ (λ _. omega arith) (λ mode.
    either_way SmallHeardBlock (not (is_lead_at N m)) _ _ (λ _. omega arith) (λ _.
    either_way SmallHeardBlock (not (eqb (length tones) 64)) _ _ (λ _. omega arith) (λ _.
    either_way SmallHeardBlock (not (eqb (length weights) 64)) _ _ (λ _. omega arith) (λ _.
    either_way SmallHeardBlock (ltb room b) _ _ (λ _. omega arith) (λ _.
    either_way SmallHeardBlock (ltb (first_bad_tone (2 ^ b) tones) 64) _ _
    (λ bad. omega (arith, ltb-true (first_bad_tone (2 ^ b) tones) 64 bad))
    (λ _.
    either_way SmallHeardBlock (ltb (first_bad_weight N weights) 64) _ _
    (λ bad. omega (arith, ltb-true (first_bad_weight N weights) 64 bad))
    (λ _.
    let high : b ≤ 8 = (mode_range b (not-false _ mode)).1 in
    judged_small m (weighted_of b tones weights) (Ok b) (omega (arith, characters_length b tones weights)) (omega arith))))))))

-- ---- a block's energies

abbrev SmallSummed : Energies → Type 0
SmallSummed e = refused_by e.answer < 2 ^ 32

pub energies_small : (N b : ℕ) (tones weights : List ℕ) → refused_by (heard_energies N b tones weights).answer < 2 ^ 32
unfolding heard_energies energies.refused summed
energies_small N b tones weights =
    either_way SmallSummed (not (is_mode b)) _ _ (λ _. omega arith) (λ _.
    either_way SmallSummed (not (eqb (length tones) 64)) _ _ (λ _. omega arith) (λ _.
    either_way SmallSummed (not (eqb (length weights) 64)) _ _ (λ _. omega arith) (λ _.
    either_way SmallSummed (ltb (first_bad_tone (2 ^ b) tones) 64) _ _
    (λ bad. omega (arith, ltb-true (first_bad_tone (2 ^ b) tones) 64 bad))
    (λ _.
    either_way SmallSummed (ltb (first_bad_weight N weights) 64) _ _
    (λ bad. omega (arith, ltb-true (first_bad_weight N weights) 64 bad))
    (λ _. omega arith)))))

-- ---- a block in a run

abbrev SmallFound : Answered ℕ → Type 0
SmallFound answer = carried_by answer < 2 ^ 32

pub found_small : (b m : ℕ) (run : List ℕ) (room : ℕ) → carried_by (find_block b m run room).answer < 2 ^ 32
unfolding find_block found_start
found_small b m run room =
    either_way SmallFound (not (is_mode b)) _ _ (λ _. omega arith) (λ _.
    either_way SmallFound (not (is_lead m)) _ _ (λ _. omega arith) (λ _.
    either_way SmallFound (not (is_run run)) _ _ (λ _. omega arith) (λ count.
    let short : length run ≤ 4096 = (within_range 64 longest_run (length run) (not-false _ count)).1 in
    either_way SmallFound (ltb room b) _ _ (λ _. omega arith) (λ _.
    either_way SmallFound (ltb (first_bad_tone (2 ^ b) run) (length run)) _ _
    (λ bad. omega (arith, ltb-true (first_bad_tone (2 ^ b) run) (length run) bad))
    (λ _.
    either_way SmallFound (ltb (first_start b m run room) (starts run)) _ _
    (λ found. omega (arith, ltb-true (first_start b m run room) (starts run) found))
    (λ _. omega arith))))))

-- ---- a message

pub message_sent_small : (b : ℕ) (text : List ℕ) (room : ℕ) → carried_by (encode_message longest b text room) < 2 ^ 32
unfolding encode_message
message_sent_small b text room =
    either_way SmallSent (not (is_mode b)) _ _ (λ _. omega arith) (λ mode.
    either_way SmallSent (ltb longest (length text)) _ _ (λ _. omega arith) (λ count.
    let short : length text ≤ 1024 = ltb-false longest (length text) count in
    either_way SmallSent (ltb room (64 * block_count b (length text))) _ _ (λ _. omega arith) (λ _.
    either_way SmallSent (ltb (first_bad_text_code text) (length text)) _ _
    (λ bad. omega (arith, ltb-true (first_bad_text_code text) (length text) bad))
    (λ _. omega (arith, count_small b (length text), mode_range b (not-false _ mode))))))

-- of codes fewer than those of the longest message and one block
delivery_small : (b : ℕ) (codes : List ℕ) → length codes < longest + 8 → carried_by (delivery longest b codes) < 2 ^ 32
unfolding delivery
delivery_small b codes few =
    let within : text_end codes ≤ length codes = end_within codes in
    either_way SmallHeard (ltb (first_zero codes) (text_end codes)) _ _ (λ zero. omega (arith, ltb-true (first_zero codes) (text_end codes) zero)) (λ _.
    either_way SmallHeard (leb b (length codes - text_end codes)) _ _ (λ _. omega arith) (λ _.
    either_way SmallHeard (ltb longest (text_end codes)) _ _ (λ _. omega arith) (λ _. omega arith)))

characters_small : (b m : ℕ) (characters : List Character) → length characters < longest + 8
    → carried_by (unless_unclear m characters (delivery longest b (codes_of characters))) < 2 ^ 32
unfolding codes_of
characters_small b m characters few =
    judged_small m characters (delivery longest b (codes_of characters)) (omega arith) (delivery_small b (codes_of characters) (rw length-map few))

pub message_heard_small : (b m : ℕ) (tones : List ℕ) (room : ℕ) → carried_by (decode_message longest b m tones room) < 2 ^ 32
unfolding decode_message
message_heard_small b m tones room =
    either_way SmallHeard (not (is_mode b)) _ _ (λ _. omega arith) (λ mode.
    let in_range : (1 ≤ b) × (b ≤ 8) = mode_range b (not-false _ mode) in
    either_way SmallHeard (not (is_lead m)) _ _ (λ _. omega arith) (λ _.
    either_way SmallHeard (not (is_whole longest b (length tones))) _ _ (λ _. omega arith) (λ count.
    let whole = not-false _ count in
    let few : length tones / 64 * b < longest + b = whole_few longest b (length tones) whole in_range.0 in
    either_way SmallHeard (ltb room (length tones / 64 * b)) _ _ (λ _. omega arith) (λ _.
    either_way SmallHeard (ltb (first_bad_tone (2 ^ b) tones) (length tones)) _ _
    (λ bad.
    let blocks = length tones / 64 in
    omega (arith, ltb-true (first_bad_tone (2 ^ b) tones) (length tones) bad, whole_blocks longest b (length tones) whole, le-mul_of_pos_right {m = b} blocks in_range.0))
    (λ _. characters_small b m (message_characters b tones) (omega (arith, message_count b tones)))))))

-- ---- a frequency, and the tone of a measurement

answered_at_0 : {A : Type 0} (fault : Option Reason) (x : A) → refused_by (answered fault x) < 2 ^ 32
answered_at_0 None x = omega arith
answered_at_0 (Some reason) x = omega arith

pub frequency_small : (b w c n : ℕ) → refused_by (frequency_of b w c n) < 2 ^ 32
unfolding frequency_of
frequency_small b w c n = answered_at_0 (fault b w c n) _

abbrev SmallLocated : Located → Type 0
SmallLocated l = located_carries l < 2 ^ 32

pub located_small : (b w c : ℕ) (x : Float) → located_carries (located_of b w c x) < 2 ^ 32
unfolding located_of heard_as
located_small b w c x = by (fault b w c 0)
  where
    measured : Located
    measured = cond (not (finite x)) Located.NotFinite (cond (not (in_band w c x)) Located.OutsideBand (heard_as b w c x (owner_of b w c x)))

    small : SmallLocated measured
    small = either_way SmallLocated (not (finite x)) _ _ (λ _. omega arith) (λ _. either_way SmallLocated (not (in_band w c x)) _ _ (λ _. omega arith) (λ _. omega arith))

    by : (f : Option Reason) → SmallLocated (settled f measured)
    by None = small
    by (Some reason) = omega arith

-- ---- a block handed in

placed_small : (counts : ℕ → ℕ) (depot : ℕ) → refused_by (place_answer counts depot) < 2 ^ 32
unfolding place_answer
placed_small counts depot =
    either_way SmallHanded (ltb 29 depot) _ _ (λ _. omega arith) (λ known.
    either_way SmallHanded (leb 8 (counts depot)) _ _ (λ _. omega (arith, ltb-false 29 depot known)) (λ _.
    either_way SmallHanded (ltb 150 (reserved (one_more counts depot))) _ _ (λ _. omega (arith, ltb-false 29 depot known)) (λ _. omega arith)))
  where
    SmallHanded : Answered Unit → Type 0
    SmallHanded answer = refused_by answer < 2 ^ 32

pub handed_small : (counts : ℕ → ℕ) (depot : ℕ) (b : Block) → refused_by (hand_answer counts depot b) < 2 ^ 32
unfolding hand_answer after_check check_codes
handed_small counts depot b =
    either_way Small (not (is_mode b.mode)) _ _ (λ _. omega arith) (λ mode.
    either_way Small (not (eqb (length b.codes) b.mode)) _ _ (λ _. omega arith) (λ _.
    either_way Small (ltb (first_bad_code b.codes) b.mode) _ _
    (λ bad. omega (arith, ltb-true (first_bad_code b.codes) b.mode bad, mode_range b.mode (not-false _ mode)))
    (λ _. placed_small counts depot)))
  where
    Small : Answered Unit → Type 0
    Small checked = refused_by (after_check checked (place_answer counts depot)) < 2 ^ 32
