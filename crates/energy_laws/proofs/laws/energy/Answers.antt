use Rattle.energy_laws.proofs.Totals.{energy_law}
use Rattle.energy_laws.proofs.laws.energy.Goals as goal

pub returns : goal.returns
returns c = energy_law
