use mathlib.Core.Path.{◌∙◌, ap}
use Rattle.told.specs.Told.{block_told}
use Rattle.told.proofs.Kept.{block_kept}
use Rattle.olivia.proofs.Carried.{block_heard_small}
use Rattle.olivia.proofs.olivia_decode_block.Goals as goal

pub returns : goal.returns
returns c =
    let called = c.decode_block in
    let kept = block_kept called.result (rw called.ensures.answer (block_heard_small _ _ _ _ _ _)) in
    record { answer = c.from.ensures ∙ ap block_told (kept ∙ called.ensures.answer); output = called.ensures.output }
