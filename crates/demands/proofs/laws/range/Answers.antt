use Rattle.demands.proofs.Agreement.{range}
use Rattle.demands.proofs.laws.range.Goals as goal

pub returns : goal.returns
returns c = range
