use Rattle.lead_laws.proofs.Raises.{raised_lead}
use Rattle.lead_laws.proofs.laws.raised_lead.Goals as goal

pub returns : goal.returns
returns c = raised_lead
