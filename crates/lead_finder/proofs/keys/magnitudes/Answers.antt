use Rattle.std.proofs.Common.{rules, nat_abs}
use Rattle.lists.specs.Lists.{at}
use Rattle.walsh.proofs.Made.{made}
use Rattle.lead_finder.proofs.keys.magnitudes.Goals as goal

pub returns : goal.returns
returns c = made (λ i. nat_abs (at c.args.numbers i)) 0 _ 64 (λ i x q l k. search rules) c.from_fn.ensures.items
