use mathlib.Core.Path.{◌≡◌, ◌∙◌, ap}
use Prim.Native.Nat.{ℕ, ◌+◌, ◌-◌, ◌/◌, ◌%◌, ◌^◌}
use native.Mathlib.Nat.{mul-div_cancel}
use native.Mathlib.Omega.{arith}
use lib.Pow.{pow-add, pow_pos}
use Rattle.refusal.proofs.checks.tone_count.Goals as goal

pub returns : goal.returns
returns c =
    let m = c.args.mode % 16 in
    let all : 15 ≡ m + (15 - m) = omega arith in
    ap (λ (n : ℕ). 2 ^ n / 2 ^ (15 - m)) all ∙ ap (λ (n : ℕ). n / 2 ^ (15 - m)) (pow-add 2 m (15 - m)) ∙ mul-div_cancel (2 ^ m) (pow_pos (15 - m))
