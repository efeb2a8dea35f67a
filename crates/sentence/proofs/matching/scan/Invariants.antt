-- Before each turn the bytes passed are digits of the value.
use Rattle.std.proofs.Common.{◌≡◌, ◌≤◌}
use Rattle.sentence.proofs.ScanCases.{Scans}
use Rattle.sentence.proofs.matching.scan.Given as goal

abbrev pub invariant-loop-c : goal.invariant-loop-c
invariant-loop-c l = (l.count ≡ l.c-index) × (l.value ≤ l.limit) × Scans l.limit l.bytes l.c-index l.value
