use Rattle.sentence_laws.proofs.Sentences.{distinct}
use Rattle.sentence_laws.proofs.laws.distinct.Goals as goal

pub returns : goal.returns
returns c = distinct
