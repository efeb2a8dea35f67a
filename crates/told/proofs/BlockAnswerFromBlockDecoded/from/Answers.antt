use Rattle.std.proofs.Common.{refl}
use Rattle.told.specs.Told.{block_told}
use Rattle.told.proofs.BlockAnswerFromBlockDecoded.from.Goals as goal

pub returns : goal.returns
unfolding block_told
returns c = rw (c.from.ensures, c.characters.ensures) refl
