use Rattle.sentence_laws.proofs.Sentences.{read_back}
use Rattle.sentence_laws.proofs.laws.read_back.Goals as goal

pub returns : goal.returns
returns c = read_back
