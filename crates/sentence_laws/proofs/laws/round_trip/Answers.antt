use Rattle.sentence_laws.proofs.RoundTrips.{round_trip}
use Rattle.sentence_laws.proofs.laws.round_trip.Goals as goal

pub returns : goal.returns
returns c = round_trip
