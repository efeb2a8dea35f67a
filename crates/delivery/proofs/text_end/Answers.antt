use mathlib.Core.Path.{◌≡◌, refl, sym, ◌∙◌}
use Prim.Native.Nat.{◌+◌, ◌-◌}
use native.Mathlib.Omega.{arith}
use Rattle.delivery.specs.Delivery.{text_end}
use Rattle.delivery.proofs.TextEnds.{end_none, end_here, end_before}
use Rattle.delivery.proofs.text_end.Goals as goal

pub loop-i-init : goal.loop-i-init
unfolding text_end
loop-i-init c = refl

pub returns-then-codes-i-ne0 : goal.returns-then-codes-i-ne0
returns-then-codes-i-ne0 c =
    let l = c.loop-i in
    let after : l.i - 1 + 1 ≡ l.i = omega arith in
    after ∙ sym (end_here _ _ c.loop-i-test.true c.if-codes-i-ne0.true) ∙ l.invariant

pub loop-i-preserved : goal.loop-i-preserved
loop-i-preserved c = end_before _ _ c.loop-i-test.true c.if-codes-i-ne0.false ∙ c.loop-i.invariant

pub returns : goal.returns
returns c =
    let l = c.loop-i in
    let none : 0 ≡ l.i = omega arith in
    none ∙ sym (end_none _ _ c.loop-i-test.false) ∙ l.invariant
