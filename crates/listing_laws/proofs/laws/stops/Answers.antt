use Rattle.listing_laws.proofs.Listings.{stops_silent}
use Rattle.listing_laws.proofs.laws.stops.Goals as goal

pub returns : goal.returns
returns c = stops_silent
