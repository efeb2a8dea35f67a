use mathlib.Core.Path.{◌≡◌}
use lib.ListN.{length}
use Rattle.block_encoder.specs.Internal.{part_symbols}
use Rattle.block_encoder.proofs.symbols.of_codes.Given as goal

abbrev pub invariant-loop-q : goal.invariant-loop-q
invariant-loop-q l =
    (length l.symbols ≡ 64) × (l.symbols ≡ part_symbols l.codes l.q)
