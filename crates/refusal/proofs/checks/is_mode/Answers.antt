use mathlib.Core.Path.{sym, ◌∙◌}
use borrow.Author.Tests.{lt-leb}
use Rattle.refusal.proofs.Limits.{within_rest, below_low}
use Rattle.refusal.proofs.checks.is_mode.Goals as goal

pub returns-then-mode-ge1 : goal.returns-then-mode-ge1
returns-then-mode-ge1 c = within_rest 1 8 _ c.if-mode-ge1.true

pub returns-else-mode-ge1 : goal.returns-else-mode-ge1
returns-else-mode-ge1 c = lt-leb 1 _ c.if-mode-ge1.false ∙ sym (below_low 1 8 _ c.if-mode-ge1.false)
