use Rattle.message_demands.proofs.RoundTrips.{round_trip}
use Rattle.message_demands.proofs.laws.round_trip.Goals as goal

pub returns : goal.returns
returns c = round_trip
