use native.Mathlib.Omega.{arith}
use Rattle.weight_range.specs.Range.{throughout}
use Rattle.block_decoder.proofs.decide_block.Goals as goal

pub hear-requires : goal.hear-requires
hear-requires c = (omega arith, λ n few fits. few)

pub returns : goal.returns
unfolding throughout
returns c = c.hear.ensures.answer
