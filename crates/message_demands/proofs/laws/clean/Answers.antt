use Rattle.message_demands.proofs.CleanBlocks.{clean}
use Rattle.message_demands.proofs.laws.clean.Goals as goal

pub returns : goal.returns
returns c = clean
