use mathlib.Core.Path.{refl}
use Rattle.chain.specs.Chain.{gray}
use Rattle.chain.proofs.GrayCodes.{symbol_table}
use Rattle.chain.proofs.gray.symbols.Goals as goal

-- the rule is computed once over all entries
pub returns : goal.returns
unfolding gray
returns c = symbol_table _ refl tt
