use Rattle.scaling.proofs.Scaled.{scaling_law}
use Rattle.scaling.proofs.laws.scaling.Goals as goal

pub returns : goal.returns
returns c = scaling_law
