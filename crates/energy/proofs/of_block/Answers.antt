use Rattle.weight_range.specs.Range.{throughout}
use Rattle.energy.proofs.of_block.Goals as goal

pub returns : goal.returns
unfolding throughout
returns c = c.of_heard.ensures
