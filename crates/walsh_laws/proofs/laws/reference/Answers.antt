use Rattle.walsh_laws.proofs.References.{reference_law}
use Rattle.walsh_laws.proofs.laws.reference.Goals as goal

pub returns : goal.returns
returns c = reference_law
