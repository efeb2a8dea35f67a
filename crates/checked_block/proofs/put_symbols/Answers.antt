use Rattle.std.proofs.Common.{◌≡◌, ◌+◌, ◌*◌, arith}
use Rattle.checked_block.proofs.put_symbols.Goals as goal

pub loop-row-init : goal.loop-row-init
loop-row-init c = c.requires

pub put_row-requires : goal.put_row-requires
put_row-requires c = (c.symbols-table.ensures, omega (arith, c.loop-row-test.true), c.loop-row.invariant)

pub loop-row-preserved : goal.loop-row-preserved
loop-row-preserved c =
    let next : 16 * (c.loop-row.row + 1) ≡ 16 * c.loop-row.row + 16 = omega arith in
    rw next c.put_row.ensures

pub returns : goal.returns
returns c =
    let done : 16 * c.loop-row.row ≡ 64 = omega arith in
    rw done at c.loop-row.invariant
