use Rattle.walsh.proofs.Butterflies.{transform}
use Rattle.walsh.proofs.laws.transform.Goals as goal

pub returns : goal.returns
returns c = transform
