use mathlib.Core.Path.{◌∙◌, ap}
use mathlib.Core.List.{List}
use lib.IntN.{ℤ, pos}
use Rattle.lists.specs.Lists.{at}
use Rattle.lists.proofs.Tables.{tab_at}
use Rattle.walsh.specs.Words.{corr}
use Rattle.walsh.specs.Energy.{energy}
use Rattle.walsh.proofs.Energies.{counts_energy}
use Rattle.lead_finder.specs.Counts.{count_at}
use Rattle.lead_finder.proofs.energy.Goals as goal

pub returns : goal.returns
returns c =
    let a = c.args in
    let h = count_at a.signs a.weights.now in
    c.energy.ensures
    ∙ ap (λ (x : List ℤ). energy (corr (at x))) c.counts.ensures
    ∙ counts_energy _ h (tab_at h (pos 0) 64)
