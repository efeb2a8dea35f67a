use Rattle.walsh.proofs.Energies.{parseval}
use Rattle.walsh.proofs.laws.parseval.Goals as goal

pub returns : goal.returns
returns c = parseval
