use mathlib.Core.Path.{refl, sym, ◌∙◌, ap}
use native.Mathlib.Nat.{zero-mod, add-mod_right}
use native.Mathlib.Omega.{arith}
use lib.ListN.{take}
use lib.Seq.{take-take}
use borrow.Author.Rules.{rules}
use Rattle.lists.specs.Lists.{tab}
use Rattle.chain.specs.Internal.{again}
use Rattle.chain.proofs.Rows.{again_written, again_cut}
use Rattle.chain.proofs.interleaver.rows.Goals.{After-copy_from_slice}
use Rattle.chain.proofs.interleaver.rows.Goals as goal

pub loop-at-init : goal.loop-at-init
unfolding again tab
loop-at-init c = record { whole = zero-mod _; values = refl }

pub loop-at-preserved : goal.loop-at-preserved
loop-at-preserved c =
    let l = c.loop-at in
    let a = c.args in record {
      whole = add-mod_right l.at a.step ∙ l.invariant.whole;
      values =
          rw c.copy_from_slice.ensures.after
          (again_written a.step a.row l.at l.values _ l.invariant.whole (search rules) (omega arith) l.invariant.values);
    }

pub returns : goal.returns
returns c =
    let l = c.loop-at in
    sym (take-take 72 l.at l.values c.loop-at-test.false) ∙ ap (take 72) l.invariant.values ∙ again_cut _ _ 72 l.at c.loop-at-test.false
