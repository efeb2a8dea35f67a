use mathlib.Core.Path.{◌≡◌, refl}
use native.Mathlib.Omega.{arith}
use lib.ListN.{length-set}
use Rattle.lists.proofs.Fronts.{over_start, over_set}
use Rattle.block_decoder.proofs.decode.put_codes.Goals as goal

pub loop-q-init : goal.loop-q-init
loop-q-init c = (refl, over_start _ _)

pub loop-q-preserved : goal.loop-q-preserved
loop-q-preserved c =
    (simp length-set c.loop-q.invariant.0, over_set 0 _ c.loop-q.q _ _ _ (omega arith) c.loop-q.invariant.1 refl)

pub returns : goal.returns
returns c = let e : c.loop-q.q ≡ c.args.count = omega arith in rw e at c.loop-q.invariant.1
