use Rattle.std.proofs.Common.{◌≡◌, ℕ, ◌+◌, ◌*◌, ◌<◌, ◌≤◌}
use Rattle.lists.specs.Lists.{num}
use Rattle.sender.proofs.places.put.Given as goal

abbrev pub invariant-loop-q : goal.invariant-loop-q
invariant-loop-q l = record {
  its_codes : (k : ℕ) → k < l.q → num l.state (10 * l.place + 2 + k) ≡ num l.codes k;
  before : (j : ℕ) → j < 10 * l.place + 2 → num l.state j ≡ num l.initial.state j;
  beyond : (j : ℕ) → 10 * l.place + 10 ≤ j → num l.state j ≡ num l.initial.state j;
}
