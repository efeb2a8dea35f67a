use Rattle.sender_laws.proofs.Conservation.{conserved}
use Rattle.sender_laws.proofs.laws.conserved.Goals as goal

pub returns : goal.returns
returns c = conserved
