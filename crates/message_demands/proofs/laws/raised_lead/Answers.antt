use Rattle.message_demands.proofs.Raised.{raised_lead}
use Rattle.message_demands.proofs.laws.raised_lead.Goals as goal

pub returns : goal.returns
returns c = raised_lead
