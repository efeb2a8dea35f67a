use Rattle.message_demands.proofs.HeardMessages.{clear}
use Rattle.message_demands.proofs.laws.clear.Goals as goal

pub returns : goal.returns
returns c = clear
