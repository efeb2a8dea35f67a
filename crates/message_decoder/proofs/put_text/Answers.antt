use Rattle.std.proofs.Common.{◌≡◌, refl, ◌∙◌, ap, List, ℕ, arith}
use lib.ListN.{length-set}
use Rattle.lists.specs.Lists.{over}
use Rattle.lists.proofs.Fronts.{over_start, over_set}
use Rattle.lists.proofs.Tables.{tab_take}
use Rattle.message_decoder.proofs.put_text.Goals as goal

pub loop-i-init : goal.loop-i-init
loop-i-init c = (refl, over_start _ _)

pub loop-i-preserved : goal.loop-i-preserved
loop-i-preserved c = (simp length-set c.loop-i.invariant.0, over_set 0 _ c.loop-i.i _ _ _ (omega arith) c.loop-i.invariant.1 refl)

pub returns : goal.returns
returns c =
    let a = c.args in
    let e : c.loop-i.i ≡ a.n = omega arith in
    rw e at c.loop-i.invariant.1 ∙ ap (λ (x : List ℕ). over x a.text.now) (tab_take 0 a.codes.now a.n (omega arith))
