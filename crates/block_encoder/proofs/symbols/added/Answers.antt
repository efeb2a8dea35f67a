use native.Mathlib.Omega.{arith}
use Rattle.block_encoder.proofs.symbols.added.Goals as goal

pub overflow_add-result : goal.overflow_add-result
overflow_add-result c = let fits = rw c.if-bit.true at c.requires in omega (arith, fits)

pub returns-then-bit : goal.returns-then-bit
returns-then-bit c = rw c.if-bit.true (omega arith)

pub returns-else-bit : goal.returns-else-bit
returns-else-bit c = rw c.if-bit.false (omega arith)
