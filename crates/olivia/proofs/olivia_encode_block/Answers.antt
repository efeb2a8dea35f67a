use mathlib.Core.Path.{◌∙◌, ap}
use Rattle.told.specs.Told.{counted_told}
use Rattle.told.proofs.Kept.{counted_kept}
use Rattle.olivia.proofs.Carried.{block_sent_small}
use Rattle.olivia.proofs.olivia_encode_block.Goals as goal

pub returns : goal.returns
returns c =
    let called = c.encode_block in
    let kept = counted_kept called.result (rw called.ensures.answer (block_sent_small _ _ _)) in
    record { answer = c.from.ensures ∙ ap counted_told (kept ∙ called.ensures.answer); output = called.ensures.output }
