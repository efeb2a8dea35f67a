use Rattle.finder_laws.proofs.Raised.{raised_lead}
use Rattle.finder_laws.proofs.laws.raised_lead.Goals as goal

pub returns : goal.returns
returns c = raised_lead
