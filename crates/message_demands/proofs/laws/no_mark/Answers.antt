use Rattle.message_demands.proofs.SentMessages.{no_mark}
use Rattle.message_demands.proofs.laws.no_mark.Goals as goal

pub returns : goal.returns
returns c = no_mark
