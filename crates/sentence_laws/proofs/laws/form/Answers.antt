use Rattle.sentence_laws.proofs.Forms.{form}
use Rattle.sentence_laws.proofs.laws.form.Goals as goal

pub returns : goal.returns
returns c = form
