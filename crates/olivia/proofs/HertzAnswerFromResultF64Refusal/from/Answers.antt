use Rattle.std.proofs.Common.{refl}
use lib.Ieee.{of_bits, odd}
use Rattle.scaled.specs.Exact.{scaled}
use Rattle.olivia.proofs.HertzAnswerFromResultF64Refusal.from.Goals as goal

pub returns-in-Err : goal.returns-in-Err
unfolding scaled of_bits odd
returns-in-Err c = rw (c.in-Err.is, c.from-told.ensures) refl
