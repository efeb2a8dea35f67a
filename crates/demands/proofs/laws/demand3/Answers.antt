use Rattle.demands.proofs.Demands.{demand3}
use Rattle.demands.proofs.laws.demand3.Goals as goal

pub returns : goal.returns
returns c = demand3
