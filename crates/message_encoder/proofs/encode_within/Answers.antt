use Rattle.std.proofs.Common.{rules, ◌≡◌, sym, ◌∙◌, ap, true, ℕ, ◌*◌, ◌≤◌, length, Result, Ok, Err, arith}
use Rattle.lists.proofs.Found.{found_some, found_none}
use Rattle.refusal.specs.Refused.{refused_at}
use Rattle.refusal.specs.Checks.{is_mode}
use Rattle.refusal.specs.declared.Reason.{Reason}
use Rattle.refusal.specs.declared.Refusal.{Refusal}
use Rattle.refusal.proofs.Limits.{mode_range}
use Rattle.refusal.proofs.Checked.{mode_passed, mode_refused}
use Rattle.message_encoder.specs.Blocks.{block_count}
use Rattle.message_encoder.proofs.Counts.{count_small, count_tight}
use Rattle.message_encoder.proofs.EncodeCases.{Sendable, code_found, refuses_mode, refuses_count, refuses_room, refuses_code, encodes, tones_written, refusal_told_lem}
use Rattle.message_encoder.proofs.encode_within.Goals as goal
use Rattle.message_encoder.proofs.encode_within.Goals.{In_ok-b, After-block_count-count, In_default}

pub returns-in_err-b : goal.returns-in_err-b
returns-in_err-b c =
    let told : ◌≡◌ {A = Result ℕ Refusal} c.from_residual.result (Err c.in_err-b.field-0.0) = search rules in
    let known = mode_refused _ _ (sym c.in_err-b.ensures) in
    let both = refusal_told_lem _ _ _ _ known.0 (refuses_mode _ _ _ _ known.1) in
    record { answer = told ∙ both.0; output = both.1 }

-- the mode, once its check has passed
mode_known : (c : In_ok-b) → is_mode c.args.mode ≡ true
mode_known c = (mode_passed _ _ (sym c.in_ok-b.ensures)).1

pub returns-then-limit-text : goal.returns-then-limit-text
returns-then-limit-text c =
    let mode = mode_known (goal.at.returns-then-limit-text c).In_ok-b in
    let both = refusal_told_lem _ _ _ _ c.at.ensures (refuses_count _ _ _ _ mode c.if-limit-text.true) in
    record { answer = both.0; output = both.1 }

pub block_count-count-requires : goal.block_count-count-requires
block_count-count-requires c =
    let mode = mode_passed _ _ (sym c.in_ok-b.ensures) in
    omega (arith, mode.0, mode_range c.args.mode mode.1)

-- the blocks, counted by the mode
counted : (c : After-block_count-count) → let a = c.args in c.block_count-count.result ≡ block_count a.mode (length a.text.now)
counted c = c.block_count-count.ensures ∙ ap (λ (b : ℕ). block_count b (length c.args.text.now)) (mode_passed _ _ (sym c.in_ok-b.ensures)).0

-- the codes of all blocks are few
few : (c : After-block_count-count) → c.block_count-count.result * c.args.mode ≤ 2048
few c =
    let a = c.args in
    let m = mode_range a.mode (mode_passed _ _ (sym c.in_ok-b.ensures)).1 in
    rw (counted c) (omega (arith, m.1, count_tight a.mode (length a.text.now) m.0))

pub overflow_mul-count : goal.overflow_mul-count
overflow_mul-count c =
    let a = c.args in
    let at = goal.at.overflow_mul-count c in
    rw (counted at.After-block_count-count) (omega (arith, (mode_range a.mode (mode_known at.In_ok-b)).1, count_small a.mode (length a.text.now)))

pub returns-then-tones-count : goal.returns-then-tones-count
returns-then-tones-count c =
    let at = goal.at.returns-then-tones-count c in
    let short = rw (counted at.After-block_count-count) at c.if-tones-count.true in
    let both = refusal_told_lem _ _ _ _ c.at-then-tones-count.ensures (refuses_room _ _ _ _ (mode_known at.In_ok-b) c.if-limit-text.false short) in
    record { answer = both.0; output = both.1 }

pub returns-in-Some : goal.returns-in-Some
returns-in-Some c =
    let at = goal.at.returns-in-Some c in
    let enough = rw (counted at.After-block_count-count) at c.if-tones-count.false in
    let bad = found_some _ _ _ (sym (code_found _) ∙ sym c.first_bad_code.ensures ∙ c.in-Some.is) in
    let both = refusal_told_lem _ _ _ _ (c.at-in-Some.ensures ∙ ap (refused_at Reason.Code) bad.0)
    (refuses_code _ _ _ _ (mode_known at.In_ok-b) c.if-limit-text.false enough bad.1) in
    record { answer = both.0; output = both.1 }

-- what the checks of mode and text leave
sendable : (c : In_default) → let a = c.args in Sendable a.limit a.mode a.text.now
sendable c = record {
  mode = (mode_passed _ _ (sym c.in_ok-b.ensures)).1;
  count = c.if-limit-text.false;
  codes = found_none _ _ (sym (code_found _) ∙ sym c.first_bad_code.ensures ∙ c.in_default.is);
}

pub put_blocks-requires : goal.put_blocks-requires
put_blocks-requires c =
    let at = goal.at.put_blocks-requires c in
    let s = sendable at.In_default in
    record { mode = s.mode; codes = s.codes; few = few at.After-block_count-count; room = c.if-tones-count.false }

pub returns : goal.returns
returns c =
    let at = goal.at.returns c in
    let count = counted at.After-block_count-count in
    let sent = encodes _ _ _ _ (sendable at.In_default) (rw count at c.if-tones-count.false) in
    record { answer = ap (λ (n : ℕ). Ok (64 * n)) count ∙ sym sent; output = rw count at c.put_blocks.ensures ∙ sym (tones_written _ _ _ _ sent) }
