use Rattle.std.proofs.Common.{◌-◌, ◌≤◌}
use Rattle.sentence_cases.proofs.read_front.Given as goal

abbrev pub invariant-loop-count : goal.invariant-loop-count
invariant-loop-count g l = l.count ≤ 4096

abbrev pub decreases-loop-count : goal.decreases-loop-count
decreases-loop-count g l = 4096 - l.count
