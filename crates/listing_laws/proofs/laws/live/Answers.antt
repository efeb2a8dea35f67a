use Rattle.listing_laws.proofs.Listings.{live}
use Rattle.listing_laws.proofs.laws.live.Goals as goal

pub returns : goal.returns
returns c = live
