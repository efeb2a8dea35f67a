use mathlib.Core.Path.{◌≡◌, sym, ap, ◌∙◌}
use Prim.Native.Nat.{ℕ, ◌<◌, max}
use native.Mathlib.Decide.{dec_lt}
use native.Mathlib.Omega.{arith}
use lib.ListN.{length}
use Rattle.text.specs.Decimal.{decimal}
use Rattle.text.proofs.Decimals.{decimal_small, decimal_length_log}
use Rattle.text.proofs.decimal_length.Goals as goal

-- every number below 10 has as many digits as 0
of_max : (n k : ℕ) → k < 10 → length (decimal (max n k)) ≡ length (decimal n)
of_max n k h = by (dec_lt n k)
  where
    by : Dec (n < k) → length (decimal (max n k)) ≡ length (decimal n)
    by (yes l) = omega (arith, ap length (decimal_small n (omega arith)), ap length (decimal_small (max n k) (omega arith)))
    by (no l) =
        let same : max n k ≡ n = omega arith in
        ap (λ (x : ℕ). length (decimal x)) same

pub returns : goal.returns
returns c =
    let log = c.ilog10 in
    let same = rw c.max.ensures at (decimal_length_log log.result c.max.result log.ensures.power_le log.ensures.next_power_gt) in
    sym same ∙ of_max c.args.n _ (omega arith)
