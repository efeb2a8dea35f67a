use mathlib.Core.Path.{◌≡◌}
use native.Mathlib.Omega.{arith}
use lib.ListN.{replicate}
use Rattle.lists.specs.Lists.{num}
use Rattle.lists.proofs.Fronts.{over_start, over_set}
use Rattle.block_decoder.specs.Internal.{seen_symbol, seen_to}
use Rattle.energy.specs.Internal.{heard_of}
use Rattle.energy.proofs.hear.Goals as goal

pub loop-t-init : goal.loop-t-init
loop-t-init c = over_start _ _

pub symbol-requires : goal.symbol-requires
symbol-requires c = (c.symbols-table.ensures, c.requires.each c.loop-t.t c.loop-t-test.true)

pub loop-t-preserved : goal.loop-t-preserved
loop-t-preserved c =
    let l = c.loop-t in
    over_set 0 (λ k. seen_symbol (num c.args.tones.now k)) l.t (replicate 64 0) l.symbols _ (omega arith) l.invariant c.symbol.ensures

pub returns : goal.returns
unfolding heard_of seen_to
returns c =
    let l = c.loop-t in
    let done : l.t ≡ 64 = omega arith in
    let p = rw done at l.invariant in
    λ i. record { symbols = p i; weights = c.heard_weights.ensures i }
