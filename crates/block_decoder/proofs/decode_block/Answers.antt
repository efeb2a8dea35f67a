use native.Mathlib.Omega.{arith}
use Rattle.weight_range.specs.Range.{throughout}
use Rattle.block_decoder.specs.Decoding.{heard_block_into}
use Rattle.block_decoder.proofs.decode_block.Goals as goal

pub hear-requires : goal.hear-requires
hear-requires c = (omega arith, λ n few fits. fits)

pub returns : goal.returns
unfolding throughout heard_block_into
returns c = record { answer = c.hear.ensures.answer; output = c.hear.ensures.output }
