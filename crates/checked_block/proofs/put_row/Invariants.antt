use mathlib.Core.Path.{◌≡◌}
use Rattle.checked_block.specs.Internal.{symbols_to}
use Rattle.checked_block.proofs.put_row.Given as goal

abbrev pub invariant-loop-t : goal.invariant-loop-t
invariant-loop-t l = (l.symbols ≡ symbols_to l.tones l.t)
