use mathlib.Core.Path.{◌≡◌, ◌∙◌, ap}
use mathlib.Core.List.{List}
use native.Mathlib.Omega.{arith}
use lib.IntN.{ℤ, pos}
use Rattle.lists.specs.Lists.{at}
use Rattle.lists.proofs.Tables.{tab_at}
use Rattle.walsh.specs.Words.{corr, correlations_of}
use Rattle.walsh.specs.Energy.{energy}
use Rattle.walsh.proofs.Energies.{energy_ext, energy_within}
use Rattle.walsh.proofs.Locals.{each_within}
use Rattle.walsh.proofs.energy.Goals as goal
use Rattle.walsh.proofs.energy.Goals.{After-correlations}

-- the sum of squares is that of the correlations
squared : (c : After-correlations) → energy (at c.correlations.result) ≡ energy (corr (at c.args.counts))
unfolding correlations_of
squared c =
    let counts = c.args.counts in
    ap (λ (x : List ℤ). energy (at x)) c.correlations.ensures ∙ energy_ext _ (corr (at counts)) (λ i l. tab_at (corr (at counts)) (pos 0) 64 i l)

pub sum_of_squares-requires : goal.sum_of_squares-requires
sum_of_squares-requires c =
    omega (arith, squared (goal.at.sum_of_squares-requires c).After-correlations, energy_within 128 (at c.args.counts) (λ i. each_within c.args.counts _ i c.well_formed.0.1.1))

pub returns : goal.returns
returns c = c.sum_of_squares.ensures ∙ squared (goal.at.returns c).After-correlations
