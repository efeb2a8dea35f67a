use mathlib.Core.Path.{◌≡◌, ◌∙◌, ap}
use Prim.Native.Nat.{ℕ, ◌-◌, ◌%◌}
use native.Mathlib.Omega.{arith}
use lib.Bits.{bit_and, and_mask}
use lib.Count.{ones}
use Rattle.walsh.specs.Words.{odd, minus}
use Rattle.walsh.proofs.is_minus.Goals as goal

pub returns : goal.returns
unfolding minus
returns c =
    let t = c.args.t in
    let six : (18446744073709551615 - t) % 64 ≡ 63 - t % 64 = omega (arith, c.ranges.t.fits) in
    ap (λ (n : ℕ). odd (ones (bit_and c.args.word n))) (and_mask (18446744073709551615 - t) 6 ∙ six)
