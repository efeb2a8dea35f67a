use Rattle.message_demands.proofs.HeardMessages.{odd_leads}
use Rattle.message_demands.proofs.laws.odd_leads.Goals as goal

pub returns : goal.returns
returns c = odd_leads
