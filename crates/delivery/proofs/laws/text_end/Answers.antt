use Rattle.delivery.proofs.TextEnds.{text_end_lem}
use Rattle.delivery.proofs.laws.text_end.Goals as goal

pub returns : goal.returns
returns c = text_end_lem
