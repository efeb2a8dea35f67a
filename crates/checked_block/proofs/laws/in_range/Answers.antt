use Rattle.checked_block.proofs.CheckedTones.{in_range}
use Rattle.checked_block.proofs.laws.in_range.Goals as goal

pub returns : goal.returns
returns c = in_range
