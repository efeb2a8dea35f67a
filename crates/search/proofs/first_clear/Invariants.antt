use mathlib.Core.Path.{◌≡◌}
use Prim.Native.Nat.{◌-◌}
use Rattle.lists.specs.Places.{scan, first}
use Rattle.search.specs.Starts.{starts, accepted_at}
use Rattle.search.proofs.first_clear.Given as goal

abbrev pub invariant-loop-start : goal.invariant-loop-start
invariant-loop-start l =
    scan (accepted_at l.mode l.least_lead l.run) l.start (starts l.run - l.start) ≡ first (accepted_at l.mode l.least_lead l.run) (starts l.run)
