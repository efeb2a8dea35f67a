use Rattle.listing_laws.proofs.Listings.{whole}
use Rattle.listing_laws.proofs.laws.whole.Goals as goal

pub returns : goal.returns
returns c = whole
