use Rattle.demands.proofs.CleanTones.{clean}
use Rattle.demands.proofs.laws.clean.Goals as goal

pub returns : goal.returns
returns c = clean
