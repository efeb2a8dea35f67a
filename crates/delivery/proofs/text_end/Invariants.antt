use mathlib.Core.Path.{◌≡◌}
use Rattle.delivery.specs.Delivery.{end_below, text_end}
use Rattle.delivery.proofs.text_end.Given as goal

abbrev pub invariant-loop-i : goal.invariant-loop-i
invariant-loop-i l = end_below l.codes l.i ≡ text_end l.codes
