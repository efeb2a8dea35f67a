use Rattle.sender_laws.proofs.Orders.{own}
use Rattle.sender_laws.proofs.laws.own.Goals as goal

pub returns : goal.returns
returns c = own
