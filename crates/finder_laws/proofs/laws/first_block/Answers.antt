use Rattle.finder_laws.proofs.FirstBlocks.{first_block}
use Rattle.finder_laws.proofs.laws.first_block.Goals as goal

pub returns : goal.returns
returns c = first_block
