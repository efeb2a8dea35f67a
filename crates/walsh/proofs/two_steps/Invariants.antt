use mathlib.Core.Path.{◌≡◌}
use Prim.Native.Nat.{◌*◌}
use lib.IntN.{pos}
use lib.ListN.{replicate}
use Rattle.lists.specs.Lists.{tab, at, over}
use Rattle.walsh.specs.Transform.{butterfly}
use Rattle.walsh.specs.Internal.{step_of}
use Rattle.walsh.proofs.two_steps.Given as goal

abbrev pub invariant-loop-i : goal.invariant-loop-i
invariant-loop-i l = (l.y ≡ over (tab (butterfly (at (step_of l.x))) (4 * l.i)) (replicate 64 (pos 0)))
