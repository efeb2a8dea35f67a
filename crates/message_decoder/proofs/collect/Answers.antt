use mathlib.Core.Path.{◌≡◌, refl, sym, ◌∙◌, ap}
use mathlib.Core.List.{List}
use Prim.Native.Nat.{ℕ, ◌+◌, ◌-◌, ◌*◌, ◌≤◌, ◌^◌}
use native.Mathlib.Nat.{zero-mul}
use native.Mathlib.Omega.{arith}
use lib.ListN.{length, take, drop}
use Rattle.lists.specs.Lists.{joined, over}
use Rattle.refusal.specs.Checks.{IsSet}
use Rattle.tone_range.specs.Range.{HasTones}
use Rattle.block_decoder.specs.Decoding.{characters_of, codes_of, decode_block}
use Rattle.block_decoder.proofs.Clarity.{text_refused}
use Rattle.checked_block.specs.Checked.{decode_checked, checked_into}
use Rattle.checked_block.proofs.CheckedTones.{in_range}
use Rattle.message_encoder.specs.Blocks.{block_at}
use Rattle.message_encoder.proofs.Parts.{part_length, part_block}
use Rattle.message_encoder.proofs.Counts.{place_room}
use Rattle.message_decoder.specs.Decoding.{heard_characters}
use Rattle.message_decoder.proofs.ToneRanges.{block_has_tones}
use Rattle.message_decoder.proofs.Hearing.{Clear, clear_heard, refused_inside, block_refused, block_clear, block_codes_lem, codes_more}
use Rattle.std.proofs.Common.{Ok, Err}
use Rattle.message_decoder.proofs.collect.Goals as goal
use Rattle.message_decoder.proofs.collect.Goals.{Start, In-loop-k, After-decode-answer}

pub loop-k-init : goal.loop-k-init
unfolding heard_characters joined codes_of over
loop-k-init c = record { codes = refl; clear = λ i h. absurd (omega (arith, zero-mul c.args.mode)) }

-- the block's codes lie within the codes
room : (c : In-loop-k) → c.loop-k.k * c.args.mode + c.args.mode ≤ length c.loop-k.codes
room c = omega (arith, place_room c.loop-k.k c.args.count c.args.mode c.loop-k-test.true, c.requires.room, c.loop-k.auto.codes)

-- what the call was handed: the settings, the tones of block k and a part of the mode's codes
set : (s : Start) → IsSet s.args.mode s.args.least_lead
set s = record { mode = s.requires.settings.0; lead = s.requires.settings.1 }

heard : (i : In-loop-k) → HasTones (2 ^ i.args.mode) (block_at i.args.tones.now i.loop-k.k)
heard i = block_has_tones i.args.tones.now i.args.count i.loop-k.k i.requires.whole i.loop-k-test.true i.args.mode i.requires.range

abbrev part : ℕ → ℕ → List ℕ → List ℕ
part at b codes = take (at + b - at) (drop at codes)

size : (i : In-loop-k) → length (part (i.loop-k.k * i.args.mode) i.args.mode i.loop-k.codes) ≡ i.args.mode
size i = part_length i.loop-k.codes (i.loop-k.k * i.args.mode) i.args.mode (room i)

-- the call's answer is the decision on block k
decision : (c : After-decode-answer) → let a = c.args in let k = c.loop-k.k in
    c.decode-answer.result ≡ (decode_block a.mode a.least_lead (block_at a.tones.now k) (length (part (k * a.mode) a.mode c.loop-k.codes))).answer
decision c =
    let a = c.args in
    let k = c.loop-k.k in
    let own = length (part (k * a.mode) a.mode c.loop-k.codes) in
    let heard : HasTones (2 ^ a.mode) (block_at a.tones.now k) = block_has_tones a.tones.now a.count k c.requires.whole c.loop-k-test.true a.mode c.requires.range in
    c.decode-answer.ensures.answer
    ∙ ap (λ (x : List ℕ). decode_checked a.mode a.least_lead x own) (part_block a.tones.now k)
    ∙ in_range.answer a.mode a.least_lead (block_at a.tones.now k) own heard

pub overflow_mul-at : goal.overflow_mul-at
overflow_mul-at c = omega (arith, room (goal.at.overflow_mul-at c).In-loop-k)

pub overflow_add-at : goal.overflow_add-at
overflow_add-at c = omega (arith, room (goal.at.overflow_add-at c).In-loop-k)

pub overflow_add-at-in-Err : goal.overflow_add-at-in-Err
overflow_add-at-in-Err c =
    let a = c.args in
    let l = c.loop-k in
    let at = goal.at.overflow_add-at-in-Err c in
    let refused = sym (decision at.After-decode-answer) ∙ c.in-Err.is in
    let own = part (l.k * a.mode) a.mode l.codes in
    let i = at.In-loop-k in
    omega (
      arith,
      room i,
      refused_inside a.mode a.least_lead a.tones.now l.k own (set at.Start) (heard i) (size i) l.invariant.clear c.in-Err.unclear refused,
    )

pub returns-in-Err : goal.returns-in-Err
returns-in-Err c =
    let a = c.args in
    let l = c.loop-k in
    let at = goal.at.returns-in-Err c in
    let refused = sym (decision at.After-decode-answer) ∙ c.in-Err.is in
    let own = part (l.k * a.mode) a.mode l.codes in
    let i = at.In-loop-k in
    let told =
    block_refused a.mode a.least_lead a.tones.now l.k own (set at.Start) (heard i) (size i) l.invariant.clear a.count
    (Ok (a.count * a.mode)) c.loop-k-test.true c.in-Err.unclear refused in
    let same = ap Err c.unclear.ensures ∙ sym told in
    record { answer = same; output = λ e. absurd (text_refused (sym e)) }

pub loop-k-preserved : goal.loop-k-preserved
loop-k-preserved c =
    let a = c.args in
    let l = c.loop-k in
    let at = goal.at.loop-k-preserved c in
    let block = block_at a.tones.now l.k in
    let own = part (l.k * a.mode) a.mode l.codes in
    let answer = sym (decision at.After-decode-answer) ∙ c.in_default.is in
    let put : c.decode-answer.new.codes ≡ codes_of (characters_of a.mode block) =
    c.decode-answer.ensures.output
    ∙ ap (λ (x : List ℕ). checked_into a.mode a.least_lead x own) (part_block a.tones.now l.k)
    ∙ in_range.output a.mode a.least_lead block own (heard at.In-loop-k)
    ∙ block_codes_lem a.mode a.least_lead a.tones.now l.k own (set at.Start) (heard at.In-loop-k) (size at.In-loop-k) l.invariant.clear _ answer in
    record {
      codes = codes_more a.mode a.tones.now l.k l.codes c.decode-answer.new.codes a.codes.now l.invariant.codes put;
      clear = block_clear a.mode a.least_lead a.tones.now l.k own (set at.Start) (heard at.In-loop-k) (size at.In-loop-k) l.invariant.clear _ answer;
    }

pub returns : goal.returns
returns c =
    let a = c.args in
    let l = c.loop-k in
    let k : l.k ≡ a.count = omega arith in
    let clear : Clear a.mode a.least_lead a.tones.now a.count = rw k at l.invariant.clear in
    record {
      answer = sym (clear_heard a.mode a.least_lead a.tones.now a.count (Ok (a.count * a.mode)) clear);
      output = λ e. rw k at l.invariant.codes;
    }
