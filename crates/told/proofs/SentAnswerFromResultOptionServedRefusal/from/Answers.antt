use Rattle.std.proofs.Common.{◌≡◌, ◌∙◌, ap, refl, Option, Ok, Some, None}
use Rattle.lists.specs.Caps.{capped}
use Rattle.refusal.specs.Refused.{Answered}
use Rattle.sender.specs.declared.Served.{Served}
use Rattle.told.proofs.SentAnswerFromResultOptionServedRefusal.from.Goals as goal

pub returns-in-Ok-Some : goal.returns-in-Ok-Some
unfolding capped
returns-in-Ok-Some c =
    let served : c.in-Ok-Some.field-0 ≡ Some c.in-Ok-Some.served = rw c.in-Ok-Some.is at c.in-Ok-Some.field-0-is in
    let sent : ◌≡◌ {A = Answered (Option Served)} c.args.answer (Ok (Some c.in-Ok-Some.served)) = c.in-Ok-Some.is ∙ ap Ok served in
    rw (sent, c.accepted.ensures) refl

pub returns-in-Ok-None : goal.returns-in-Ok-None
unfolding capped
returns-in-Ok-None c =
    let served : c.in-Ok-None.field-0 ≡ None = rw c.in-Ok-None.is at c.in-Ok-None.field-0-is in
    let none : ◌≡◌ {A = Answered (Option Served)} c.args.answer (Ok None) = c.in-Ok-None.is ∙ ap Ok served in
    rw (none, c.accepted-in-Ok-None.ensures) refl
