use Rattle.weighted_demands.proofs.Demands.{weighted_clear}
use Rattle.weighted_demands.proofs.laws.weighted_clear.Goals as goal

pub returns : goal.returns
returns c = weighted_clear
