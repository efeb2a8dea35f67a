use mathlib.Core.Path.{◌≡◌, refl, ap}
use Prim.Native.Nat.{ℕ, ◌*◌, ◌≤◌}
use native.Mathlib.Nat.{mul-le-mul}
use native.Mathlib.Omega.{arith}
use Rattle.lists.specs.Lists.{num}
use Rattle.lists.specs.Sums.{total}
use Rattle.lists.proofs.Sums.{total_more}
use Rattle.energy.proofs.total.Goals as goal
use Rattle.energy.proofs.total.Goals.{After-squared-sum}

pub loop-weight-init : goal.loop-weight-init
unfolding total
loop-weight-init c = (omega arith, refl)

-- a square is at most that of 15
few : (c : After-squared-sum) → c.squared-sum.result ≤ 225
few c =
    let h = c.requires c.loop-weight.weight-index c.loop-weight-test.true in
    omega (arith, c.squared-sum.ensures, mul-le-mul h h)

pub overflow_add-sum : goal.overflow_add-sum
overflow_add-sum c = omega (arith, few (goal.at.overflow_add-sum c).After-squared-sum, c.loop-weight.invariant.0)

pub loop-weight-preserved : goal.loop-weight-preserved
loop-weight-preserved c =
    let f : ℕ → ℕ = λ k. num c.args.weights.now k * num c.args.weights.now k in
    (omega (arith, few (goal.at.loop-weight-preserved c).After-squared-sum, c.loop-weight.invariant.0), omega (arith, c.loop-weight.invariant.1, c.squared-sum.ensures, total_more c.loop-weight.weight-index f))

pub overflow_mul-result : goal.overflow_mul-result
overflow_mul-result c = omega (arith, c.loop-weight.invariant.0)

pub returns : goal.returns
returns c =
    let l = c.loop-weight in
    let done : l.weight-index ≡ 64 = omega arith in
    ap (λ (n : ℕ). 64 * n) (rw done at l.invariant.1)
