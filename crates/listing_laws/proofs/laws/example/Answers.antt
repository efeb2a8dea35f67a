use Rattle.listing_laws.proofs.Computed.{example}
use Rattle.listing_laws.proofs.laws.example.Goals as goal

pub returns : goal.returns
returns c = example
