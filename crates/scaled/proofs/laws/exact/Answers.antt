use Rattle.scaled.proofs.Scaling.{exact_law}
use Rattle.scaled.proofs.laws.exact.Goals as goal

pub returns : goal.returns
returns c = exact_law
