use mathlib.Core.Path.{refl}
use Rattle.lists.specs.Lists.{tab}
use Rattle.chain.specs.Tables.{place_value}
use Rattle.chain.proofs.Values.{row_of_mode}
use Rattle.chain.proofs.interleaver.row.Goals as goal

pub returns : goal.returns
unfolding tab place_value
returns c = row_of_mode _ c.args.b refl c.requires.0 c.requires.1
