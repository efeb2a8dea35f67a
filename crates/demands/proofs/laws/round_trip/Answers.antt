use Rattle.demands.proofs.Demands.{round_trip}
use Rattle.demands.proofs.laws.round_trip.Goals as goal

pub returns : goal.returns
returns c = round_trip
