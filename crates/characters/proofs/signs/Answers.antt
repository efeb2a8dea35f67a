use mathlib.Core.Bool.{false}
use Rattle.std.proofs.Common.{rules}
use Rattle.walsh.proofs.Made.{made}
use Rattle.characters.specs.Internal.{table_sign}
use Rattle.characters.proofs.signs.Goals as goal

pub returns : goal.returns
unfolding table_sign
returns c =
    let a = c.args in
    made (table_sign a.keys.now a.values.now a.symbols.now a.q) false _ 64 (λ t x q l k. search rules) c.from_fn.ensures.items
