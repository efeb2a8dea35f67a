use mathlib.Core.Path.{◌∙◌, ap}
use Rattle.sentence_laws.proofs.Sizes.{read_small}
use Rattle.told.specs.Told.{read_told}
use Rattle.told.proofs.Kept.{read_kept}
use Rattle.olivia.proofs.olivia_read_sentence.Goals as goal

pub returns : goal.returns
returns c =
    let called = c.read_sentence in
    let kept = read_kept called.result (rw called.ensures (read_small _)) in
    c.from.ensures ∙ ap read_told (kept ∙ called.ensures)
