use mathlib.Core.Path.{◌≡◌, sym, ◌∙◌}
use mathlib.Core.Bool.{true}
use Prim.Native.Nat.{◌≤◌}
use native.Mathlib.Omega.{arith}
use Rattle.refusal.specs.Checks.{is_mode}
use Rattle.refusal.proofs.Limits.{mode_range}
use Rattle.chain.proofs.Values.{values_again, mode_values, no_mode_values}
use Rattle.chain.proofs.interleaver.values.Goals as goal

pub returns-then-not-is_mode : goal.returns-then-not-is_mode
returns-then-not-is_mode c =
    let m = c.is_mode in
    sym (no_mode_values c.args.mode (sym m.ensures ∙ c.if-not-is_mode.true))

-- the mode, once its check has passed
mode_known : (c : goal.Else-not-is_mode) → is_mode c.args.mode ≡ true
mode_known c = sym c.is_mode.ensures ∙ c.if-not-is_mode.false

bits_known : (c : goal.Else-not-is_mode) → (1 ≤ c.args.mode) × (c.args.mode ≤ 8)
bits_known c = mode_range c.args.mode (mode_known c)

pub step-requires : goal.step-requires
step-requires c = (omega (arith, (bits_known c).0), omega (arith, (bits_known c).1))

pub row-requires : goal.row-requires
row-requires c = (omega (arith, (bits_known c.before).0), omega (arith, (bits_known c.before).1))

pub returns : goal.returns
returns c =
    let r = c.before.before in
    c.front.ensures
    ∙ c.rows.ensures
    ∙ values_again r.args.mode _ _ r.step.ensures r.row.ensures
    ∙ sym (mode_values _ (mode_known r.before.before))
