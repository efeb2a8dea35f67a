use Rattle.decision.proofs.Choice.{decision_law}
use Rattle.decision.proofs.laws.decision.Goals as goal

pub returns : goal.returns
returns c = decision_law
