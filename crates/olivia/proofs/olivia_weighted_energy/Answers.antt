use mathlib.Core.Path.{◌∙◌, ap}
use Rattle.told.specs.Told.{energies_told}
use Rattle.told.proofs.Kept.{energies_kept}
use Rattle.olivia.proofs.Carried.{energies_small}
use Rattle.olivia.proofs.olivia_weighted_energy.Goals as goal

pub returns : goal.returns
returns c =
    let called = c.of_weighted in
    c.from.ensures ∙ ap energies_told (energies_kept called.result (rw called.ensures (energies_small _ _ _ _)) ∙ called.ensures)
