use Rattle.scaled.proofs.Scaling.{steps_law}
use Rattle.scaled.proofs.laws.steps.Goals as goal

pub returns : goal.returns
returns c = steps_law
