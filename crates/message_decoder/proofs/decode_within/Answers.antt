use Rattle.std.proofs.Common.{rules, ◌≡◌, sym, ◌∙◌, ap, ℕ, ◌/◌, ◌*◌, ◌^◌, ◌≤◌, length, take, Result, Ok, Err, arith, length-take-le}
use native.Mathlib.Nat.{mul-le-mul_left}
use Rattle.lists.specs.Lists.{over}
use Rattle.lists.specs.Found.{found}
use Rattle.lists.proofs.Found.{found_some, found_none}
use Rattle.refusal.specs.Refused.{refused_at}
use Rattle.refusal.specs.declared.Reason.{Reason}
use Rattle.refusal.specs.declared.Refusal.{Refusal}
use Rattle.refusal.specs.Checks.{IsSet}
use Rattle.refusal.proofs.Limits.{mode_range, mode_tones}
use Rattle.refusal.proofs.Checked.{mode_passed, mode_refused, lead_passed, lead_refused}
use Rattle.tone_range.specs.Range.{first_bad_tone}
use Rattle.tone_range.proofs.Looks.{bad_found}
use Rattle.block_decoder.specs.Decoding.{codes_of, unless_unclear}
use Rattle.block_decoder.proofs.Clarity.{text_told, clear_told, refused_alike}
use Rattle.message_encoder.specs.Blocks.{is_whole}
use Rattle.message_encoder.proofs.Counts.{whole_blocks, whole_few}
use Rattle.message_decoder.specs.Decoding.{heard_characters, message_characters}
use Rattle.message_decoder.proofs.Hearing.{collected_fit, collected_front}
use Rattle.message_decoder.proofs.DecodeCases.{Passed, Hearable, refuses_mode, refuses_lead, refuses_count, refuses_room, refuses_tone, judges, text_kept, refusal_told_lem, delivery_told}
use Rattle.message_decoder.proofs.decode_within.Goals as goal
use Rattle.message_decoder.proofs.decode_within.Goals.{In_ok-check_lead, After-is_whole, After-check, Else-text-count, In_default, After-collect, In_ok-total}

pub returns-in_err-b : goal.returns-in_err-b
returns-in_err-b c =
    let told : ◌≡◌ {A = Result ℕ Refusal} c.from_residual.result (Err c.in_err-b.field-0.0) = search rules in
    let known = mode_refused _ _ (sym c.in_err-b.ensures) in
    let both = refusal_told_lem _ _ _ _ _ known.0 (refuses_mode _ _ _ _ _ known.1) in
    record { answer = told ∙ both.0; output = both.1 }

pub returns-in_err-check_lead : goal.returns-in_err-check_lead
returns-in_err-check_lead c =
    let told : ◌≡◌ {A = Result ℕ Refusal} c.from_residual-in_err-check_lead.result (Err c.in_err-check_lead.field-0.0) = search rules in
    let mode = mode_passed _ _ (sym c.in_ok-b.ensures) in
    let known = lead_refused _ _ _ (sym c.in_err-check_lead.ensures) in
    let both = refusal_told_lem _ _ _ _ _ known.0 (refuses_lead _ _ _ _ _ mode.1 known.1) in
    record { answer = told ∙ both.0; output = both.1 }

-- the settings, once their checks have passed
set : (c : In_ok-check_lead) → (c.in_ok-b.b ≡ c.args.mode) × IsSet c.args.mode c.args.least_lead
set c =
    let mode = mode_passed _ _ (sym c.in_ok-b.ensures) in
    (mode.0, record { mode = mode.1; lead = lead_passed _ _ _ (sym c.in_ok-check_lead.ensures) })

pub is_whole-requires : goal.is_whole-requires
is_whole-requires c =
    let s = set (goal.at.is_whole-requires c).In_ok-check_lead in
    (c.requires.limit, omega (arith, s.0, mode_range c.args.mode s.1.mode))

-- whether the tones are whole blocks, by the mode
wholeness : (c : After-is_whole) → let a = c.args in c.is_whole.result ≡ is_whole a.limit a.mode (length a.tones.now)
wholeness c = c.is_whole.ensures ∙ ap (λ (b : ℕ). is_whole c.args.limit b (length c.args.tones.now)) (mode_passed _ _ (sym c.in_ok-b.ensures)).0

pub returns-then-not-is_whole : goal.returns-then-not-is_whole
returns-then-not-is_whole c =
    let at = goal.at.returns-then-not-is_whole c in
    let s = (set at.In_ok-check_lead).1 in
    let broken = sym (wholeness at.After-is_whole) ∙ c.if-not-is_whole.true in
    let both = refusal_told_lem _ _ _ _ _ c.at.ensures (refuses_count _ _ _ _ _ s.mode s.lead broken) in
    record { answer = both.0; output = both.1 }

pub overflow_mul-count : goal.overflow_mul-count
overflow_mul-count c =
    let s = set (goal.at.overflow_mul-count c).In_ok-check_lead in
    rw s.0 (omega (arith, mul-le-mul_left (length c.args.tones.now / 64) (mode_range c.args.mode s.1.mode).1))

pub returns-then-text-count : goal.returns-then-text-count
returns-then-text-count c =
    let at = goal.at.returns-then-text-count c in
    let s = set at.In_ok-check_lead in
    let whole = sym (wholeness at.After-is_whole) ∙ c.if-not-is_whole.false in
    let short = rw s.0 at c.if-text-count.true in
    let both = refusal_told_lem _ _ _ _ _ c.at-then-text-count.ensures (refuses_room _ _ _ _ _ s.1.mode s.1.lead whole short) in
    record { answer = both.0; output = both.1 }

passed : (c : Else-text-count) → let a = c.args in Passed a.limit a.mode a.least_lead (length a.tones.now) (length a.text.now)
passed c =
    let mode = mode_passed _ _ (sym c.in_ok-b.ensures) in
    record {
      mode = mode.1;
      lead = lead_passed _ _ _ (sym c.in_ok-check_lead.ensures);
      whole = sym (c.is_whole.ensures ∙ ap (λ (b : ℕ). is_whole c.args.limit b (length c.args.tones.now)) mode.0) ∙ c.if-not-is_whole.false;
      fits = rw mode.0 at c.if-text-count.false;
    }

-- the range check is by the mode's count of tones
range : (c : After-check) → let a = c.args in c.check.result.bad ≡ found (length a.tones.now) (first_bad_tone (2 ^ a.mode) a.tones.now)
range c =
    let a = c.args in
    bad_found _ _ c.check.ensures
    ∙ ap (λ (limit : ℕ). found (length a.tones.now) (first_bad_tone limit a.tones.now)) (c.tone_count.ensures ∙ mode_tones a.mode (mode_passed _ _ (sym c.in_ok-b.ensures)).1)

pub returns-in-Some : goal.returns-in-Some
returns-in-Some c =
    let at = goal.at.returns-in-Some c in
    let bad = found_some _ _ _ (sym (range at.After-check) ∙ c.in-Some.is) in
    let both = refusal_told_lem _ _ _ _ _ (c.at-in-Some.ensures ∙ ap (refused_at Reason.Tone) bad.0)
    (refuses_tone _ _ _ _ _ (passed at.Else-text-count) bad.1) in
    record { answer = both.0; output = both.1 }

hearable : (c : In_default) → let a = c.args in Hearable a.limit a.mode a.least_lead a.tones.now (length a.text.now)
hearable c =
    let a = c.args in
    let mode = mode_passed _ _ (sym c.in_ok-b.ensures) in
    let range = bad_found _ _ c.check.ensures
    ∙ ap (λ (limit : ℕ). found (length a.tones.now) (first_bad_tone limit a.tones.now)) (c.tone_count.ensures ∙ mode_tones a.mode mode.1) in
    record {
      passed = record {
        mode = mode.1;
        lead = lead_passed _ _ _ (sym c.in_ok-check_lead.ensures);
        whole = sym (c.is_whole.ensures ∙ ap (λ (b : ℕ). is_whole a.limit b (length a.tones.now)) mode.0) ∙ c.if-not-is_whole.false;
        fits = rw mode.0 at c.if-text-count.false;
      };
      in_range = found_none _ _ (sym range ∙ c.in_default.is);
    }

pub collect-requires : goal.collect-requires
collect-requires c =
    let a = c.args in
    let h = hearable (goal.at.collect-requires c).In_default in
    let m = mode_range a.mode h.passed.mode in
    let whole = whole_blocks a.limit a.mode (length a.tones.now) h.passed.whole in
    let few = whole_few a.limit a.mode (length a.tones.now) h.passed.whole m.0 in
    record { settings = (h.passed.mode, h.passed.lead); whole = whole; range = h.in_range; room = omega (arith, m.1, few, c.requires.room, h.passed.fits) }

-- what was collected, by the message's characters
judged : (c : After-collect) → let a = c.args in
    c.collect.result ≡ unless_unclear a.least_lead (message_characters a.mode a.tones.now) (Ok (length a.tones.now / 64 * a.mode))
unfolding message_characters
judged c = c.collect.ensures.answer

-- a refusal leaves the output as it was
pub returns-in_err-total : goal.returns-in_err-total
returns-in_err-total c =
    let at = goal.at.returns-in_err-total c in
    let told : ◌≡◌ {A = Result ℕ Refusal} c.from_residual-in_err-total.result (Err c.in_err-total.field-0.0) = search rules in
    let refused = judges _ _ _ _ _ (hearable at.In_default) ∙ refused_alike _ _ _ _ (sym (judged at.After-collect) ∙ c.in_err-total.was) in
    record { answer = told ∙ sym refused; output = sym (text_kept _ _ _ _ _ refused) }

-- the codes collected from accepted blocks, and their count
collected : (c : In_ok-total) → let a = c.args in
    let count = length a.tones.now / 64 in
    (c.in_ok-total.total ≡ count * a.mode) × (c.collect.new.codes ≡ over (codes_of (heard_characters a.mode a.tones.now count)) a.codes.now)
collected c =
    let a = c.args in
    let told = text_told _ _ _ _ (sym c.collect.ensures.answer ∙ c.in_ok-total.was) in
    let same : c.in_ok-total.total ≡ length a.tones.now / 64 * a.mode = cc in
    (same, c.collect.ensures.output (c.in_ok-total.was ∙ sym told.1))

-- they lie within the codes
within : (c : In_ok-total) → c.in_ok-total.total ≤ length c.collect.new.codes
within c =
    let a = c.args in
    let known = collected c in
    omega (arith, known.0, collected_fit a.mode a.tones.now (length a.tones.now / 64) c.collect.new.codes _ known.1)

pub slice_bounds-deliver-end : goal.slice_bounds-deliver-end
slice_bounds-deliver-end c = within (goal.at.slice_bounds-deliver-end c).In_ok-total

pub slice_bounds-deliver-end-2 : goal.slice_bounds-deliver-end-2
slice_bounds-deliver-end-2 c = sym (length-take-le _ _ (within (goal.at.slice_bounds-deliver-end-2 c).In_ok-total))

pub deliver-requires : goal.deliver-requires
deliver-requires c =
    let at = goal.at.deliver-requires c in
    omega (arith, (collected at.In_ok-total).0, length-take-le c.in_ok-total.total c.collect.new.codes (within at.In_ok-total), (passed at.Else-text-count).fits)

pub returns : goal.returns
unfolding message_characters
returns c =
    let a = c.args in
    let at = goal.at.returns c in
    let mode = (set at.In_ok-check_lead).0 in
    let known = collected at.In_ok-total in
    let codes =
    ap (λ (n : ℕ). take n c.collect.new.codes) known.0 ∙ collected_front a.mode a.tones.now (length a.tones.now / 64) c.collect.new.codes _ known.1 in
    let both = delivery_told a.limit a.mode a.least_lead a.tones.now a.text.now codes
    (judges _ _ _ _ _ (hearable at.In_default) ∙ clear_told _ _ _ (text_told _ _ _ _ (sym (judged at.After-collect) ∙ c.in_ok-total.was)).0)
    (rw mode at c.deliver.ensures.answer) (rw mode at c.deliver.ensures.output) in
    record { answer = both.0; output = both.1 }
