use Rattle.text.proofs.ReadBack.{numbers}
use Rattle.text.proofs.laws.numbers.Goals as goal

pub returns : goal.returns
returns c = numbers
