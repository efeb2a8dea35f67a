use mathlib.Core.Path.{◌≡◌, ◌∙◌}
use native.Mathlib.Omega.{arith}
use lib.Dec.{lit≤}
use lib.ListN.{replicate}
use Rattle.lists.specs.Lists.{num}
use Rattle.lists.proofs.Fronts.{over_start, over_set, over_tab_whole}
use Rattle.block_decoder.specs.Decoding.{heard_weight, heard_weights}
use Rattle.block_decoder.proofs.heard_weights.Goals as goal

pub loop-t-init : goal.loop-t-init
loop-t-init c = over_start _ _

pub loop-t-preserved : goal.loop-t-preserved
loop-t-preserved c =
    let l = c.loop-t in
    let a = c.args in
    over_set 0 (λ k. heard_weight (num a.tones.now k) (num a.weights.now k)) l.t (replicate 64 0) l.heard _ (omega arith) l.invariant c.heard_weight.ensures

pub returns : goal.returns
unfolding heard_weights
returns c =
    let l = c.loop-t in
    let done : l.t ≡ 64 = omega arith in
    rw done at l.invariant ∙ over_tab_whole _ 64 _ (lit≤ tt)
