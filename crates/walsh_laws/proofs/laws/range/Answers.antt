use Rattle.walsh.proofs.Sizes.{corr_within}
use Rattle.walsh_laws.proofs.laws.range.Goals as goal

pub returns : goal.returns
returns c = record { within = corr_within }
