use Rattle.tone_range.proofs.Looks.{stops}
use Rattle.tone_range.proofs.laws.stops.Goals as goal

pub returns : goal.returns
returns c = stops
