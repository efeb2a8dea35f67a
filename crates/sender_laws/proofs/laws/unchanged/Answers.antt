use Rattle.sender_laws.proofs.Refusals.{unchanged}
use Rattle.sender_laws.proofs.laws.unchanged.Goals as goal

pub returns : goal.returns
returns c = unchanged
