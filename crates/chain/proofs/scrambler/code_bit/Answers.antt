use mathlib.Core.Path.{ap}
use mathlib.Core.Bool.{not}
use borrow.Author.Tests.{lt-ltb, le-ltb}
use Rattle.chain.specs.Chain.{code_bit}
use Rattle.chain.proofs.scrambler.code_bit.Goals as goal

pub returns-then-code-lt64 : goal.returns-then-code-lt64
unfolding code_bit
returns-then-code-lt64 c = rw (lt-ltb _ _ c.if-code-lt64.true) (rw c.from.ensures at c.is_minus.ensures)

pub returns-else-code-lt64 : goal.returns-else-code-lt64
unfolding code_bit
returns-else-code-lt64 c = rw (le-ltb _ _ c.if-code-lt64.false) (ap not (rw c.from-else-code-lt64.ensures at c.is_minus-else-code-lt64.ensures))
