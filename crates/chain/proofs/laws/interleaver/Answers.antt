use Rattle.chain.proofs.Interleaving.{interleaver}
use Rattle.chain.proofs.laws.interleaver.Goals as goal

pub returns : goal.returns
returns c = interleaver
