use Rattle.text.proofs.ReadBack.{signed_numbers}
use Rattle.text.proofs.laws.signed_numbers.Goals as goal

pub returns : goal.returns
returns c = signed_numbers
