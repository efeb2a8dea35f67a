use Rattle.demands.proofs.Answers.{odd_leads}
use Rattle.demands.proofs.laws.odd_leads.Goals as goal

pub returns : goal.returns
returns c = odd_leads
