use mathlib.Core.Path.{◌≡◌, ◌∙◌}
use Rattle.walsh.specs.Internal.{Within}
use Rattle.walsh.proofs.Locals.{each_within}
use Rattle.walsh.proofs.Sizes.{upto, two_within, steps, six_steps}
use Rattle.walsh.proofs.correlations.Goals as goal

within0 : (c : goal.After-widened-x) → Within 128 c.widened-x.result
within0 c = rw c.widened-x.ensures record { within = λ i. each_within c.args.counts _ i c.well_formed.0.1.1 }

within1 : (c : goal.After-two_steps-x) → Within 512 c.two_steps-x.result
within1 c = two_within (within0 c.before) c.two_steps-x.ensures

pub two_steps-x-requires : goal.two_steps-x-requires
two_steps-x-requires c = upto 2048 (within0 c) tt

pub two_steps-x-requires-2 : goal.two_steps-x-requires-2
two_steps-x-requires-2 c = upto 2048 (within1 c) tt

pub two_steps-requires : goal.two_steps-requires
two_steps-requires c = two_within (within1 c.before) c.two_steps-x-2.ensures

pub returns : goal.returns
unfolding steps
returns c =
    let counts = c.args.counts in
    let six : c.two_steps.result ≡ steps 6 counts = cc in
    six ∙ six_steps counts
