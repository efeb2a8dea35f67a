use Rattle.scaled_order.proofs.Comparing.{order_law}
use Rattle.scaled_order.proofs.laws.order.Goals as goal

pub returns : goal.returns
returns c = order_law
