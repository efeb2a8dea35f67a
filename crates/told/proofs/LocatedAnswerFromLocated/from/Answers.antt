use Rattle.std.proofs.Common.{refl}
use Rattle.lists.specs.Caps.{capped}
use Rattle.told.proofs.LocatedAnswerFromLocated.from.Goals as goal

pub returns-in-NotFinite : goal.returns-in-NotFinite
unfolding capped
returns-in-NotFinite c = rw (c.in-NotFinite.is, c.nowhere.ensures, c.at.ensures) refl

pub returns-in-OutsideBand : goal.returns-in-OutsideBand
unfolding capped
returns-in-OutsideBand c = rw (c.in-OutsideBand.is, c.nowhere-in-OutsideBand.ensures, c.at-in-OutsideBand.ensures) refl

pub returns-in-Refused : goal.returns-in-Refused
returns-in-Refused c = rw (c.in-Refused.is, c.nowhere-in-Refused.ensures) refl
