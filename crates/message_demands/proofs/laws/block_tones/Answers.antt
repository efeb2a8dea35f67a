use Rattle.message_demands.proofs.SentMessages.{block_tones_lem}
use Rattle.message_demands.proofs.laws.block_tones.Goals as goal

pub returns : goal.returns
returns c = block_tones_lem
