use Rattle.band.proofs.Answers.{fractions_law}
use Rattle.band.proofs.laws.fractions.Goals as goal

pub returns : goal.returns
returns c = fractions_law
