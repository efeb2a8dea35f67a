-- Before each turn the values stand as far as its place, which begins a row.
use mathlib.Core.Path.{◌≡◌}
use Prim.Native.Nat.{◌-◌, ◌%◌}
use lib.ListN.{take}
use Rattle.chain.specs.Internal.{again}
use Rattle.chain.proofs.interleaver.rows.Given as goal

abbrev pub invariant-loop-at : goal.invariant-loop-at
invariant-loop-at l = record {
  whole : l.at % l.step ≡ 0;
  values : take l.at l.values ≡ again l.step l.row l.at;
}

abbrev pub decreases-loop-at : goal.decreases-loop-at
decreases-loop-at l = 72 - l.at
