use mathlib.Core.Path.{◌∙◌, ap}
use Rattle.told.specs.Told.{found_told}
use Rattle.told.proofs.Kept.{found_kept}
use Rattle.olivia.proofs.Carried.{found_small}
use Rattle.olivia.proofs.olivia_find_block.Goals as goal

pub returns : goal.returns
returns c =
    let called = c.find in
    let mode = c.args.mode in
    let kept = found_kept called.result (rw called.ensures.answer (found_small _ _ _ _)) in
    record { answer = c.new.ensures ∙ ap (found_told mode) (kept ∙ called.ensures.answer); output = called.ensures.output }
