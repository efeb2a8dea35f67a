use Rattle.sender_laws.proofs.Reserves.{room}
use Rattle.sender_laws.proofs.laws.room.Goals as goal

pub returns : goal.returns
returns c = room
