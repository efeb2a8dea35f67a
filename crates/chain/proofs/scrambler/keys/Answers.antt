use mathlib.Core.Path.{refl}
use Rattle.lists.specs.Lists.{tab}
use Rattle.lists.specs.Sums.{total}
use Rattle.chain.specs.Chain.{key_bit}
use Rattle.chain.specs.Tables.{keys_at}
use Rattle.chain.proofs.scrambler.keys.Goals as goal

-- the rule is computed once over all entries
pub returns : goal.returns
unfolding tab keys_at total key_bit
returns c = refl
