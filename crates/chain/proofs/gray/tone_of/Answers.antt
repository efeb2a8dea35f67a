use mathlib.Core.Path.{refl}
use Rattle.chain.specs.Chain.{gray}
use Rattle.chain.proofs.gray.tone_of.Goals as goal

pub returns : goal.returns
unfolding gray
returns c = refl
