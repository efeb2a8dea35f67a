use mathlib.Core.Path.{◌∙◌}
use Rattle.message_encoder.proofs.Counts.{count_by_ceil}
use Rattle.message_encoder.proofs.block_count.Goals as goal

pub returns : goal.returns
returns c = c.div_ceil.ensures ∙ count_by_ceil c.args.mode c.args.codes c.requires
