use borrow.Author.Tests.{eq-eqb, ne_eqb}
use Rattle.block_decoder.specs.Decoding.{heard_weight}
use Rattle.block_decoder.proofs.heard_weight.Goals as goal

pub returns-then-tone-eq-MISSING : goal.returns-then-tone-eq-MISSING
unfolding heard_weight
returns-then-tone-eq-MISSING c = rw (eq-eqb _ _ c.if-tone-eq-MISSING.true)

pub returns-else-tone-eq-MISSING : goal.returns-else-tone-eq-MISSING
unfolding heard_weight
returns-else-tone-eq-MISSING c = rw (ne_eqb _ _ c.if-tone-eq-MISSING.false)
