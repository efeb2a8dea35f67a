use Rattle.std.proofs.Common.{rules, ◌≡◌, ◌∙◌, sym, Result, Err}
use Rattle.refusal.specs.declared.Refusal.{Refusal}
use Rattle.block_encoder.proofs.CheckCases.{count_passed, later_refused, later_each}
use Rattle.block_encoder.proofs.check_codes.Goals as goal

pub returns-in_err-check_count : goal.returns-in_err-check_count
returns-in_err-check_count c =
    let told : ◌≡◌ {A = Result Unit Refusal} c.from_residual.result (Err c.in_err-check_count.field-0.0) = search rules in
    told ∙ sym (later_refused _ _ (sym c.in_err-check_count.ensures))

pub returns : goal.returns
returns c =
    let known = count_passed _ _ (sym c.in_ok-check_count.ensures) in
    c.check_each.ensures ∙ later_each _ _ known.0 known.1
