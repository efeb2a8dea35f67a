use Rattle.std.proofs.Common.{refl}
use Rattle.lists.specs.Caps.{capped}
use Rattle.told.proofs.ReadAnswerFromResultRefusalRefusal.from.Goals as goal

pub returns-in-Ok : goal.returns-in-Ok
unfolding capped
returns-in-Ok c = rw (c.in-Ok.is, c.from-told.ensures, c.accepted.ensures) refl
