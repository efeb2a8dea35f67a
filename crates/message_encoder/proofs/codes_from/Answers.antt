use mathlib.Core.Path.{◌≡◌}
use native.Mathlib.Omega.{arith}
use Rattle.lists.proofs.Fronts.{over_start, over_set}
use Rattle.message_encoder.proofs.codes_from.Goals as goal

pub loop-q-init : goal.loop-q-init
loop-q-init c = over_start _ _

pub loop-q-preserved : goal.loop-q-preserved
loop-q-preserved c = over_set 0 _ c.loop-q.q _ _ _ (omega arith) c.loop-q.invariant c.code_at.ensures

pub returns : goal.returns
returns c = let e : c.loop-q.q ≡ c.args.mode = omega arith in rw e at c.loop-q.invariant
