use Rattle.chain.proofs.GrayCodes.{gray_code}
use Rattle.chain.proofs.laws.gray_code.Goals as goal

pub returns : goal.returns
returns c = gray_code
