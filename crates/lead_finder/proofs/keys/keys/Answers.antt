use Rattle.std.proofs.Common.{rules, ◌≡◌, ℕ, ◌+◌, ◌-◌, ◌*◌, ◌∙◌, ◌≤◌, nat_abs}
use Rattle.std.proofs.iter.Serving.{serving}
use Rattle.lists.specs.Lists.{num, at, tab}
use Rattle.walsh.proofs.Made.{made}
use Rattle.lead_finder.proofs.KeyOrder.{magnitudes_small, keys_from}
use Rattle.lead_finder.proofs.keys.keys.Goals as goal
use Rattle.lead_finder.proofs.keys.keys.Goals.{After-magnitudes-magnitudes}

-- the magnitudes are those of the correlations
own : (c : After-magnitudes-magnitudes) → c.magnitudes-magnitudes.result ≡ tab (λ i. nat_abs (at c.before.before.args.correlations i)) 64
own c = rw c.before.narrowed.ensures at c.magnitudes-magnitudes.ensures

pub from_fn-requires : goal.from_fn-requires
from_fn-requires c =
    let small : (i : ℕ) → num c.magnitudes-magnitudes.result i ≤ 960 = magnitudes_small (at c.args.correlations) _ (own (goal.at.from_fn-requires c).After-magnitudes-magnitudes) 960 c.requires.within in
    grind (serving, small)

pub returns : goal.returns
returns c =
    let m = c.magnitudes-magnitudes.result in
    made (λ k. num m k * 64 + (63 - k)) 0 _ 64 (λ i x q l k. search rules) c.from_fn.ensures.items
    ∙ keys_from (at c.args.correlations) _ (own (goal.at.returns c).After-magnitudes-magnitudes)
