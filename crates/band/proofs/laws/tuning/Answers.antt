use Rattle.band.proofs.Tunes.{tuning_law}
use Rattle.band.proofs.laws.tuning.Goals as goal

pub returns : goal.returns
returns c = tuning_law
