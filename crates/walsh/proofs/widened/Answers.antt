use Rattle.std.proofs.Common.{rules, pos}
use Rattle.walsh.proofs.Made.{copied}
use Rattle.walsh.proofs.widened.Goals as goal

pub returns : goal.returns
returns c = copied c.args.counts (pos 0) _ 64 (search rules) (λ i x q l k. search rules) c.from_fn.ensures.items
