use native.Mathlib.Omega.{arith}
use Rattle.block_decoder.specs.Decoding.{heard_block_into}
use Rattle.block_decoder.proofs.decode_weighted.Goals as goal

pub hear-requires : goal.hear-requires
hear-requires c = (omega arith, λ n few fits. fits)

pub returns : goal.returns
unfolding heard_block_into
returns c = record { answer = c.hear.ensures.answer; output = c.hear.ensures.output }
