use Rattle.std.proofs.Common.{◌≡◌, ◌*◌}
use Rattle.checked_block.specs.Internal.{symbols_to}
use Rattle.checked_block.proofs.put_symbols.Given as goal

abbrev pub invariant-loop-row : goal.invariant-loop-row
invariant-loop-row l = l.symbols ≡ symbols_to l.tones (16 * l.row)
