use mathlib.Core.Path.{◌∙◌, ap}
use Rattle.sentence_laws.proofs.Sizes.{written_small}
use Rattle.told.specs.Told.{counted_told}
use Rattle.told.proofs.Kept.{counted_kept}
use Rattle.olivia.proofs.olivia_write_sentence.Goals as goal

pub returns : goal.returns
returns c =
    let called = c.write_sentence in
    let kept = counted_kept called.result (rw called.ensures.answer (written_small _ _ _ _)) in
    record { answer = c.from.ensures ∙ ap counted_told (kept ∙ called.ensures.answer); output = called.ensures.output }
