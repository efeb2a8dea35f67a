use Rattle.sender_laws.proofs.Reserves.{reserved}
use Rattle.sender_laws.proofs.laws.reserved.Goals as goal

pub returns : goal.returns
returns c = reserved
