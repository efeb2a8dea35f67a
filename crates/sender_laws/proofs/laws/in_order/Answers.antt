use Rattle.sender_laws.proofs.Orders.{in_order}
use Rattle.sender_laws.proofs.laws.in_order.Goals as goal

pub returns : goal.returns
returns c = in_order
