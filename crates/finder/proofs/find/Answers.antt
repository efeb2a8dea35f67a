use Prim.Native.Nat.{◌+◌, ◌≤◌}
use native.Mathlib.Omega.{arith}
use lib.ListN.{length}
use Rattle.finder.proofs.FindCases.{found_fits, finds, refuses}
use Rattle.finder.proofs.find.Goals as goal
use Rattle.finder.proofs.find.Goals.{In-Ok}

-- the 64 tones lie within the run
fits : (c : In-Ok) → c.in-Ok.start + 64 ≤ length c.args.run.now
fits c =
    found_fits _ _ c.args.run.now _ _ _ c.locate-answer.ensures c.in-Ok.is

pub overflow_add-heard : goal.overflow_add-heard
overflow_add-heard c = omega (arith, fits (goal.at.overflow_add-heard c).In-Ok)

pub offset_bounds-run-start : goal.offset_bounds-run-start
offset_bounds-run-start c = omega (arith, fits (goal.at.offset_bounds-run-start c).In-Ok)

pub slice_bounds-heard-end : goal.slice_bounds-heard-end
slice_bounds-heard-end c = omega (arith, fits (goal.at.slice_bounds-heard-end c).In-Ok)

pub returns-in-Ok : goal.returns-in-Ok
returns-in-Ok c =
    let both = finds _ _ _ _ c.locate-answer.result c.locate-answer.ensures _ c.decode_block-decoded.result _ c.in-Ok.is c.decode_block-decoded.ensures.answer c.decode_block-decoded.ensures.output in record { answer = both.0; output = both.1 }

pub returns-in-Err : goal.returns-in-Err
returns-in-Err c =
    let both = refuses _ _ _ _ c.locate-answer.result c.locate-answer.ensures _ c.in-Err.is in record { answer = both.0; output = both.1 }
