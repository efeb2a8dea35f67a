use mathlib.Core.Path.{◌≡◌, refl}
use native.Mathlib.Omega.{arith}
use Rattle.lists.specs.Lists.{at}
use Rattle.lists.specs.Sums.{total}
use Rattle.walsh.specs.Energy.{energy}
use Rattle.walsh.proofs.Energies.{Next, next}
use Rattle.walsh.proofs.sum_of_squares.Goals as goal

pub loop-word-init : goal.loop-word-init
unfolding total
loop-word-init c = refl

-- what the next correlation adds
added : (c : goal.After-correlation-1) → Next (at c.args.correlations) c.loop-word.word
added c = next (at c.args.correlations) c.loop-word.word (omega (arith, c.loop-word-test.true)) c.requires

pub overflow_mul-sum : goal.overflow_mul-sum
overflow_mul-sum c = (added c).fits

pub overflow_cast-sum : goal.overflow_cast-sum
overflow_cast-sum c = rw (added c).value (tt, omega (arith, (added c).small))

pub overflow_add-sum : goal.overflow_add-sum
overflow_add-sum c = rw (added c).value (omega (arith, (added c).small, c.loop-word.invariant))

pub loop-word-preserved : goal.loop-word-preserved
loop-word-preserved c = rw (added c).value (omega (arith, (added c).more, c.loop-word.invariant))

pub returns : goal.returns
unfolding energy
returns c =
    let done : c.loop-word.word ≡ 64 = omega arith in
    rw done at c.loop-word.invariant
