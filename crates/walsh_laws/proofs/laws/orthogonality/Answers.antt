use Rattle.walsh_laws.proofs.Orthogonal.{orthogonality}
use Rattle.walsh_laws.proofs.laws.orthogonality.Goals as goal

pub returns : goal.returns
returns c = orthogonality
