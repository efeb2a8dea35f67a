use Rattle.std.proofs.Common.{◌∙◌, ap}
use Rattle.told.specs.Told.{located_told}
use Rattle.told.proofs.Kept.{located_kept}
use Rattle.olivia.proofs.Carried.{located_small}
use Rattle.olivia.proofs.olivia_locate.Goals as goal

pub returns : goal.returns
returns c =
    let called = c.locate in
    c.from.ensures ∙ ap located_told (located_kept called.result (rw called.ensures.answer (located_small _ _ _ _)) ∙ called.ensures.answer)
