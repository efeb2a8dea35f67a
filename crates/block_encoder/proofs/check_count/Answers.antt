use Rattle.std.proofs.Common.{rules, ◌≡◌, ◌∙◌, sym, ap, Result, Err, eq-eqb, ne_eqb}
use Rattle.refusal.specs.declared.Refusal.{Refusal}
use Rattle.refusal.proofs.Checked.{mode_passed, mode_refused}
use Rattle.block_encoder.specs.Checking.{check_count}
use Rattle.block_encoder.proofs.check_count.Goals as goal

pub returns-in_err-check_mode : goal.returns-in_err-check_mode
unfolding check_count
returns-in_err-check_mode c =
    let told : ◌≡◌ {A = Result Unit Refusal} c.from_residual.result (Err c.in_err-check_mode.field-0.0) = search rules in
    let known = mode_refused _ _ (sym c.in_err-check_mode.ensures) in
    told ∙ ap Err known.0 ∙ simp known.1

pub returns-then-branch-codes : goal.returns-then-branch-codes
unfolding check_count
returns-then-branch-codes c =
    let known = mode_passed _ _ (sym c.in_ok-check_mode.ensures) in
    simp (known.1, eq-eqb _ _ (sym c.if-branch-codes.true ∙ known.0))

pub returns-else-branch-codes : goal.returns-else-branch-codes
unfolding check_count
returns-else-branch-codes c =
    let known = mode_passed _ _ (sym c.in_ok-check_mode.ensures) in
    ap Err c.at.ensures ∙ simp (known.1, ne_eqb _ _ (λ e. c.if-branch-codes.false (known.0 ∙ sym e)))
