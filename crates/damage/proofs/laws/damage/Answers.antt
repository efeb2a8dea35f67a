use Rattle.damage.proofs.Drift.{damage_law}
use Rattle.damage.proofs.laws.damage.Goals as goal

pub returns : goal.returns
returns c = damage_law
