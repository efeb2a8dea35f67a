use Rattle.std.proofs.Common.{◌≡◌, ◌-◌}
use Rattle.lists.specs.Places.{scan}
use Rattle.sender.specs.Internal.{is_of, place_with}
use Rattle.sender.proofs.places.place_of.Given as goal

abbrev pub invariant-loop-i : goal.invariant-loop-i
invariant-loop-i l = scan (is_of l.depot l.state) l.i (l.count - l.i) ≡ place_with l.depot l.state l.count
