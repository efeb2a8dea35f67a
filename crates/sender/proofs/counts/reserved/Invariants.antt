use Rattle.std.proofs.Common.{◌≡◌, ◌*◌, ◌≤◌, max}
use Rattle.lists.specs.Sums.{total}
use Rattle.sender.specs.State.{counts_in}
use Rattle.sender.proofs.counts.reserved.Given as goal

abbrev pub invariant-loop-d : goal.invariant-loop-d
invariant-loop-d l = (l.sum ≡ total l.d (λ i. max 4 (counts_in l.state i))) × (l.sum ≤ 255 * l.d)
