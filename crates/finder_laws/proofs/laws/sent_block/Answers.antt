use Rattle.finder_laws.proofs.SentBlocks.{sent_block}
use Rattle.finder_laws.proofs.laws.sent_block.Goals as goal

pub returns : goal.returns
returns c = sent_block
