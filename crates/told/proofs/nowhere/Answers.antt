use Rattle.std.proofs.Common.{refl}
use lib.Ieee.{of_bits, odd}
use Rattle.scaled.specs.Exact.{scaled}
use Rattle.told.proofs.nowhere.Goals as goal

pub returns : goal.returns
unfolding scaled of_bits odd
returns c = rw c.from-told.ensures refl
