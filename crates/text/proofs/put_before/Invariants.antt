-- Before each turn the text is as it was before place `at`, and what stands from there on follows the digits of what is left.
use mathlib.Core.Path.{◌≡◌}
use mathlib.Core.List.{◌++◌}
use Prim.Native.Nat.{◌≤◌}
use lib.ListN.{length, take, drop}
use Rattle.text.specs.Decimal.{decimal}
use Rattle.text.proofs.put_before.Given as goal

abbrev pub invariant-loop-at : goal.invariant-loop-at
invariant-loop-at l = record {
  within : l.at ≤ l.place;
  room : length l.text ≡ length l.initial.text;
  fits : length (decimal l.left) ≤ l.at;
  front : take l.at l.text ≡ take l.at l.initial.text;
  made : decimal l.n ++ drop l.place l.initial.text ≡ decimal l.left ++ drop l.at l.text;
}
