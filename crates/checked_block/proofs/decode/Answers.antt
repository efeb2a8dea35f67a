use Rattle.std.proofs.Common.{rules, ◌≡◌, sym, ◌∙◌, ℕ, ◌<◌, ◌≤◌, length, Result, Err, arith}
use Rattle.refusal.specs.declared.Reason.{Reason}
use Rattle.refusal.specs.declared.Refusal.{Refusal}
use Rattle.refusal.proofs.Checked.{mode_passed, mode_refused, lead_passed, lead_refused}
use Rattle.weight_range.proofs.Ranges.{has_throughout}
use Rattle.block_decoder.proofs.DecodeCases.{refuses_mode, refuses_lead, refuses_count, refuses_room}
use Rattle.checked_block.proofs.CheckedTones.{below_count}
use Rattle.checked_block.proofs.Decisions.{refusal_told_lem, decision_told}
use Rattle.checked_block.proofs.decode.Goals as goal

pub returns-in_err-b : goal.returns-in_err-b
returns-in_err-b c =
    let told : ◌≡◌ {A = Result ℕ Refusal} c.from_residual.result (Err c.in_err-b.field-0.0) = search rules in
    let known = mode_refused _ _ (sym c.in_err-b.ensures) in
    let both = refusal_told_lem _ _ _ _ Reason.Mode 0 known.0 (refuses_mode _ _ _ _ _ _ known.1) in
    record { answer = told ∙ both.0; output = both.1 }

pub returns-in_err-check_lead : goal.returns-in_err-check_lead
returns-in_err-check_lead c =
    let told : ◌≡◌ {A = Result ℕ Refusal} c.from_residual-in_err-check_lead.result (Err c.in_err-check_lead.field-0.0) = search rules in
    let mode = mode_passed _ _ (sym c.in_ok-b.ensures) in
    let known = lead_refused _ _ _ (sym c.in_err-check_lead.ensures) in
    let both = refusal_told_lem _ _ _ _ Reason.LeastLead 0 known.0 (refuses_lead _ _ _ _ _ _ mode.1 known.1) in
    record { answer = told ∙ both.0; output = both.1 }

pub returns-in_default : goal.returns-in_default
returns-in_default c =
    let mode = mode_passed _ _ (sym c.in_ok-b.ensures) in
    let lead = lead_passed _ _ _ (sym c.in_ok-check_lead.ensures) in
    let both = refusal_told_lem _ _ _ _ Reason.ToneCount 0 c.at.ensures
    (refuses_count _ _ _ _ _ _ mode.1 lead (λ e. c.in_default.ensures.cases (sym (below_count _ _) ∙ e))) in
    record { answer = both.0; output = both.1 }

pub returns-then-codes-b : goal.returns-then-codes-b
returns-then-codes-b c =
    let mode = mode_passed _ _ (sym c.in_ok-b.ensures) in
    let lead = lead_passed _ _ _ (sym c.in_ok-check_lead.ensures) in
    let short : length c.args.codes.now < c.args.mode = omega (arith, c.if-codes-b.true, mode.0) in
    let both = refusal_told_lem _ _ _ _ Reason.Room 0 c.at-then-codes-b.ensures
    (refuses_room _ _ _ _ _ _ mode.1 lead (below_count _ _ ∙ c.in-Some.ensures.cases.long) (has_throughout 1 1 (omega arith)).count short) in
    record { answer = both.0; output = both.1 }

pub decide-requires : goal.decide-requires
decide-requires c =
    let mode = mode_passed _ _ (sym c.in_ok-b.ensures) in
    (mode.1, omega (arith, c.if-codes-b.false, mode.0))

pub returns : goal.returns
returns c =
    let a = c.args in
    let mode = mode_passed _ _ (sym c.in_ok-b.ensures) in
    let lead = lead_passed _ _ _ (sym c.in_ok-check_lead.ensures) in
    let enough : a.mode ≤ length a.codes.now = omega (arith, c.if-codes-b.false, mode.0) in
    let d = rw c.in-Some.ensures.cases.same at c.decide.ensures in
    let both = decision_told _ _ _ _ (record { mode = mode.1; lead = lead }) c.in-Some.ensures.cases.long enough d.answer d.output in
    record { answer = both.0; output = both.1 }
