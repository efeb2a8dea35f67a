use Rattle.std.proofs.Common.{◌∙◌, ap}
use Rattle.told.proofs.Kept.{refused_kept}
use Rattle.olivia.specs.Told.{hertz_told}
use Rattle.olivia.proofs.Carried.{frequency_small}
use Rattle.olivia.proofs.olivia_frequency.Goals as goal

pub returns : goal.returns
returns c =
    let called = c.frequency in
    c.from.ensures ∙ ap hertz_told (refused_kept called.result (rw called.ensures (frequency_small _ _ _ _)) ∙ called.ensures)
