use Rattle.std.proofs.Common.{rules, pos}
use Rattle.walsh.proofs.Made.{copied}
use Rattle.lead_finder.proofs.keys.narrowed.Goals as goal

pub returns : goal.returns
returns c = copied c.args.correlations (pos 0) _ 64 (search rules) (λ i x q l k. search rules) c.from_fn.ensures.items
