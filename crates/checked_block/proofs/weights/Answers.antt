use mathlib.Core.Path.{◌≡◌, ◌∙◌}
use native.Mathlib.Omega.{arith}
use lib.Dec.{lit≤}
use lib.ListN.{replicate}
use Rattle.lists.specs.Lists.{num}
use Rattle.lists.proofs.Fronts.{over_start, over_set, over_tab_whole}
use Rattle.checked_block.specs.Checked.{weight_below}
use Rattle.checked_block.specs.Internal.{weights_below}
use Rattle.checked_block.proofs.weights.Goals as goal

pub loop-t-init : goal.loop-t-init
loop-t-init c = over_start _ _

pub loop-t-preserved : goal.loop-t-preserved
loop-t-preserved c =
    let l = c.loop-t in
    let a = c.args in
    over_set 0 (λ k. weight_below a.limit (num a.tones.now k)) l.t (replicate 64 0) l.weights _ (omega arith) l.invariant c.weight.ensures

pub returns : goal.returns
unfolding weights_below
returns c =
    let l = c.loop-t in
    let done : l.t ≡ 64 = omega arith in
    rw done at l.invariant ∙ over_tab_whole _ 64 _ (lit≤ tt)
