use Rattle.sender_laws.proofs.Refusals.{none_only}
use Rattle.sender_laws.proofs.laws.none_only.Goals as goal

pub returns : goal.returns
returns c = none_only
