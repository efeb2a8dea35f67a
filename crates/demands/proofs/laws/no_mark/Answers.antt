use Rattle.demands.proofs.Sent.{no_mark}
use Rattle.demands.proofs.laws.no_mark.Goals as goal

pub returns : goal.returns
returns c = no_mark
