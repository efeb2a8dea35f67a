use Rattle.std.proofs.Common.{refl}
use Rattle.lists.specs.Caps.{capped}
use Rattle.told.proofs.AnswerFromResultUnitRefusal.from.Goals as goal

pub returns-in-Ok : goal.returns-in-Ok
unfolding capped
returns-in-Ok c = rw (c.in-Ok.is, c.accepted.ensures) refl
