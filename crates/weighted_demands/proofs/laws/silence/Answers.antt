use Rattle.weighted_demands.proofs.Silences.{silence_law}
use Rattle.weighted_demands.proofs.laws.silence.Goals as goal

pub returns : goal.returns
returns c = silence_law
