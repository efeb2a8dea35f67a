use Rattle.weighted_demands.proofs.Demands.{weighted_demand3}
use Rattle.weighted_demands.proofs.laws.weighted_demand3.Goals as goal

pub returns : goal.returns
returns c = weighted_demand3
