use Rattle.std.proofs.Common.{◌∙◌}
use Rattle.told.proofs.Kept.{told_or_most}
use Rattle.told.proofs.capped.Goals as goal

pub returns : goal.returns
returns c = c.unwrap_or.ensures ∙ told_or_most _ _ c.try_from.ensures
