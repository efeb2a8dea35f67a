use mathlib.Core.Path.{◌≡◌, refl}
use native.Mathlib.Omega.{arith}
use lib.ListN.{length, length-set}
use Rattle.lists.proofs.Fronts.{over_start, over_set}
use Rattle.search.proofs.put_weights.Goals as goal

pub loop-t-init : goal.loop-t-init
loop-t-init c = (refl, over_start _ _)

pub bounds-weights-t : goal.bounds-weights-t
bounds-weights-t c = omega (arith, c.loop-t.invariant.0, c.requires)

pub loop-t-preserved : goal.loop-t-preserved
loop-t-preserved c =
    let l = c.loop-t in
    (simp length-set l.invariant.0, over_set 0 _ l.t _ _ _ (omega (arith, c.requires)) l.invariant.1 c.weight.ensures)

pub returns : goal.returns
returns c =
    let l = c.loop-t in
    let done : l.t ≡ length c.args.run.now = omega arith in
    rw done at l.invariant.1
