use Prim.Native.Nat.{◌+◌, ◌≤◌}
use native.Mathlib.Omega.{arith}
use lib.ListN.{length}
use Rattle.finder.proofs.Parts.{start_fits, is_part, no_part}
use Rattle.finder.proofs.part_found.Goals as goal
use Rattle.finder.proofs.part_found.Goals.{In-Ok}

-- the 64 tones lie within the run
fits : (c : In-Ok) → c.in-Ok.start + 64 ≤ length c.args.run.now
fits c = start_fits c.args.run.now _ _ c.in-Ok.is c.requires

pub overflow_add-result : goal.overflow_add-result
overflow_add-result c = omega (arith, fits (goal.at.overflow_add-result c).In-Ok)

pub offset_bounds-run-start : goal.offset_bounds-run-start
offset_bounds-run-start c = omega (arith, fits (goal.at.offset_bounds-run-start c).In-Ok)

pub slice_bounds-result-end : goal.slice_bounds-result-end
slice_bounds-result-end c = omega (arith, fits (goal.at.slice_bounds-result-end c).In-Ok)

pub returns-in-Ok : goal.returns-in-Ok
returns-in-Ok c = is_part c.args.run c.args.block.answer c.in-Ok.start c.in-Ok.is

pub returns-in-Err : goal.returns-in-Err
returns-in-Err c = no_part c.args.run c.args.block.answer c.in-Err.field-0 c.in-Err.is
