use mathlib.Core.Path.{sym}
use mathlib.Core.Bool.{not}
use lib.Bits.{bit_and}
use lib.Dec.{eqb}
use Rattle.chain.proofs.Xors.{turned_differs}
use Rattle.characters.specs.Symbols.{has_value}
use Rattle.characters.specs.Internal.{sign_by}
use Rattle.characters.proofs.sign.Goals as goal

pub returns : goal.returns
unfolding sign_by has_value
returns c = let a = c.args in sym (turned_differs a.key (not (eqb (bit_and a.symbol a.value) 0)))
