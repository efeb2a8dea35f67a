use Rattle.delivery.proofs.TextAnswers.{answers}
use Rattle.delivery.proofs.laws.answers.Goals as goal

pub returns : goal.returns
returns c = answers
