use Rattle.message_demands.proofs.HeardMessages.{blocks_heard}
use Rattle.message_demands.proofs.laws.blocks_heard.Goals as goal

pub returns : goal.returns
returns c = blocks_heard
