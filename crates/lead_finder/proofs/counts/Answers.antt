use Rattle.std.proofs.Common.{rules, pos}
use Rattle.walsh.proofs.Made.{made}
use Rattle.lead_finder.specs.Counts.{count_at}
use Rattle.lead_finder.proofs.counts.Goals as goal

pub returns : goal.returns
returns c = made (count_at c.args.signs c.args.weights.now) (pos 0) _ 64 (λ t x q l k. search rules) c.from_fn.ensures.items
