use Rattle.demands.proofs.Answers.{clear}
use Rattle.demands.proofs.laws.clear.Goals as goal

pub returns : goal.returns
returns c = clear
