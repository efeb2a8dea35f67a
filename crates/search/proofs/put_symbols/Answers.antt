use mathlib.Core.Path.{◌≡◌, refl}
use native.Mathlib.Omega.{arith}
use lib.ListN.{length, length-set}
use Rattle.lists.proofs.Fronts.{over_start, over_set}
use Rattle.lists.proofs.Tables.{tab_at}
use Rattle.chain.specs.Tables.{symbol_of}
use Rattle.search.proofs.put_symbols.Goals as goal

pub loop-t-init : goal.loop-t-init
loop-t-init c = (refl, over_start _ _)

pub bounds-symbols-t : goal.bounds-symbols-t
bounds-symbols-t c = omega (arith, c.loop-t.invariant.0, c.requires)

pub loop-t-preserved : goal.loop-t-preserved
loop-t-preserved c =
    let l = c.loop-t in
    let table = c.symbols-table.ensures in
    (simp length-set l.invariant.0, over_set 0 _ l.t _ _ _ (omega (arith, c.requires)) l.invariant.1 (rw (table, c.from.ensures) (tab_at symbol_of 0 256 _ (omega arith))))

pub returns : goal.returns
returns c =
    let l = c.loop-t in
    let done : l.t ≡ length c.args.run.now = omega arith in
    rw done at l.invariant.1
