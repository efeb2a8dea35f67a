use mathlib.Core.Path.{refl}
use Prim.Native.Nat.{◌+◌}
use native.Mathlib.Omega.{arith}
use lib.ListN.{get_or-replicate}
use Rattle.lists.specs.Lists.{tab}
use Rattle.lists.specs.Sums.{total}
use Rattle.sender.specs.Queues.{new}
use Rattle.sender.specs.State.{blocks_of}
use Rattle.sender.proofs.Sender.new.Goals as goal

pub returns : goal.returns
unfolding blocks_of new tab total
returns c = record { size = refl; queues = λ d. refl; counts = λ d l. get_or-replicate 1532 (1500 + d) 0 0 (omega arith); places = refl; turn = refl }
