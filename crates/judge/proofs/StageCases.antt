-- Nothing is said of a line that ends after the listing has stopped.
use Rattle.std.proofs.Common.{◌≡◌, ℕ, List, []}
use Rattle.stages.specs.declared.Listing.{Listing}
use Rattle.stages.specs.declared.Stage.TheVariants.{Stopped}
use Rattle.stages.specs.Stages.{stops}
use Rattle.judge.specs.Judged.{judged, closed}

pub closes_stopped : (listing : Listing) (tones : List ℕ) → listing.stage ≡ Stopped → closed listing tones ≡ stops []
unfolding closed judged
closes_stopped listing tones e = rw e
