use Rattle.sentence_laws.proofs.Sentences.{reading}
use Rattle.sentence_laws.proofs.laws.reading.Goals as goal

pub returns : goal.returns
returns c = reading
