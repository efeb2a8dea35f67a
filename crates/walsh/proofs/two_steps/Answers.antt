use mathlib.Core.Path.{◌≡◌, ◌∙◌}
use Prim.Native.Nat.{◌+◌, ◌*◌, ◌<◌}
use native.Mathlib.Omega.{arith}
use lib.Dec.{lit≤}
use lib.IntN.{pos}
use lib.ListN.{replicate}
use Rattle.lists.specs.Lists.{at}
use Rattle.lists.proofs.Fronts.{over_start, over_tab_whole}
use Rattle.walsh.specs.Transform.{butterfly}
use Rattle.walsh.specs.Internal.{step_of}
use Rattle.walsh.proofs.Locals.{sum_holds, difference_holds}
use Rattle.walsh.proofs.Fours.{first_of_four, second_of_four, third_of_four, fourth_of_four, added, subtracted, FourFit, four_fit, four_more}
use Rattle.walsh.proofs.two_steps.Goals as goal

pub loop-i-init : goal.loop-i-init
loop-i-init c = over_start _ _

fit : (c : goal.After-fourth-1) → FourFit c.args.x c.loop-i.i
fit c = four_fit _ c.requires _

pub overflow_add-y : goal.overflow_add-y
overflow_add-y c = (fit c).sums.sum

pub overflow_add-y-in-loop-i : goal.overflow_add-y-in-loop-i
overflow_add-y-in-loop-i c = (fit c).differences.sum

pub overflow_sub-y : goal.overflow_sub-y
overflow_sub-y c =
    let sums = (fit c).sums in
    search sums

pub overflow_sub-y-in-loop-i : goal.overflow_sub-y-in-loop-i
overflow_sub-y-in-loop-i c = (fit c).differences.more

pub loop-i-preserved : goal.loop-i-preserved
loop-i-preserved c =
    let s = c.before.before.before.before.before.before in
    let l = c.loop-i in
    let x = s.args.x in
    let low_sum = added x s.requires l.i (l.i + 16) in
    let low-difference = subtracted x s.requires (l.i + 16) l.i in
    let high_sum = added x s.requires (l.i + 32) (l.i + 48) in
    let high-difference = subtracted x s.requires (l.i + 48) (l.i + 32) in
    let more : l.i < 16 = omega arith in
    let next : 4 * l.i + 4 ≡ 4 * (l.i + 1) = omega arith in
    rw next at (four_more (butterfly (at (step_of x))) (4 * l.i) (replicate 64 (pos 0)) l.y _ _ _ _ (omega arith) l.invariant
    ((sum_holds low_sum high_sum (omega arith)).value ∙ first_of_four x l.i more)
    ((sum_holds low-difference high-difference (omega arith)).value ∙ second_of_four x l.i more)
    ((difference_holds high_sum low_sum (omega arith)).value ∙ third_of_four x l.i more)
    ((difference_holds high-difference low-difference (omega arith)).value ∙ fourth_of_four x l.i more))

pub returns : goal.returns
unfolding step_of
returns c =
    let l = c.loop-i in
    let done : l.i ≡ 16 = omega arith in
    rw done at l.invariant ∙ over_tab_whole _ 64 _ (lit≤ tt)
