use Rattle.std.proofs.Common.{rules, ◌≡◌, ◌∙◌, sym, Err}
use Rattle.refusal.specs.Refused.{Answered}
use Rattle.sender.proofs.PlaceCases.{right_answered, wrong_refused}
use Rattle.sender.proofs.counts.judge.Goals as goal

pub returns-in_err-check_codes : goal.returns-in_err-check_codes
returns-in_err-check_codes c =
    let told : ◌≡◌ {A = Answered Unit} c.from_residual.result (Err c.in_err-check_codes.field-0.0) = search rules in
    told ∙ sym (wrong_refused _ _ _ (sym c.in_err-check_codes.ensures))

pub returns : goal.returns
returns c = c.place.ensures ∙ sym (right_answered _ _ _ (sym c.in_ok-check_codes.ensures))
