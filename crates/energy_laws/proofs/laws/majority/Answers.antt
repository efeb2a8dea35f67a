use Rattle.energy_laws.proofs.Majorities.{majority}
use Rattle.energy_laws.proofs.laws.majority.Goals as goal

pub returns : goal.returns
returns c = majority
