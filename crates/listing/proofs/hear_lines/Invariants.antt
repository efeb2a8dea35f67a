use Rattle.std.proofs.Common.{◌-◌, ◌≤◌, length}
use Rattle.listing.proofs.Pieces.{Hears}
use Rattle.listing.proofs.hear_lines.Given as goal

abbrev pub invariant-loop-from : goal.invariant-loop-from
invariant-loop-from l =
    (l.from ≤ length l.bytes) × Hears l.bytes l.initial.tones l.initial.out l.initial.state l.tones l.out l.state l.written l.from

abbrev pub decreases-loop-from : goal.decreases-loop-from
decreases-loop-from l = length l.bytes - l.from
