use Rattle.lists.proofs.Places.{first_place}
use Rattle.lists.proofs.laws.first_place.Goals as goal

pub returns : goal.returns
returns c = first_place
