use Rattle.decision.proofs.Parities.{parity}
use Rattle.decision.proofs.laws.parity.Goals as goal

pub returns : goal.returns
returns c = parity
