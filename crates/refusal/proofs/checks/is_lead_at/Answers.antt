use mathlib.Core.Path.{sym, ◌∙◌}
use Prim.Native.Nat.{◌*◌}
use borrow.Author.Tests.{lt-leb}
use Rattle.refusal.proofs.Limits.{within_rest, below_low}
use Rattle.refusal.proofs.checks.is_lead_at.Goals as goal

pub returns-then-least_lead-ge1 : goal.returns-then-least_lead-ge1
returns-then-least_lead-ge1 c = rw c.from.ensures (within_rest 1 (64 * c.args.greatest) _ c.if-least_lead-ge1.true)

pub returns-else-least_lead-ge1 : goal.returns-else-least_lead-ge1
returns-else-least_lead-ge1 c = lt-leb 1 _ c.if-least_lead-ge1.false ∙ sym (below_low 1 (64 * c.args.greatest) _ c.if-least_lead-ge1.false)
