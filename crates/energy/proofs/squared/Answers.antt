use Rattle.std.proofs.Common.{◌≤◌, arith}
use native.Mathlib.Nat.{mul-le-mul}
use Rattle.energy.proofs.squared.Goals as goal

pub overflow_mul-result : goal.overflow_mul-result
overflow_mul-result c =
    let few : c.from-weight.result ≤ 255 = omega (arith, c.well_formed.0.1, c.from-weight.ensures) in
    omega (arith, mul-le-mul few few)
