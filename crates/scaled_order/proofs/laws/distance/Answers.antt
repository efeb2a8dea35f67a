use Rattle.scaled_order.proofs.Distances.{distance_law}
use Rattle.scaled_order.proofs.laws.distance.Goals as goal

pub returns : goal.returns
returns c = distance_law
