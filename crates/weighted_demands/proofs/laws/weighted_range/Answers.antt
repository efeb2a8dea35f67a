use Rattle.weighted_demands.proofs.Demands.{weighted_range}
use Rattle.weighted_demands.proofs.laws.weighted_range.Goals as goal

pub returns : goal.returns
returns c = weighted_range
