use Rattle.sender_laws.proofs.Fairness.{fair}
use Rattle.sender_laws.proofs.laws.fair.Goals as goal

pub returns : goal.returns
returns c = fair
