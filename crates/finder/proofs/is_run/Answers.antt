use mathlib.Core.Path.{sym, ◌∙◌}
use borrow.Author.Tests.{lt-leb}
use Rattle.refusal.proofs.Limits.{within_rest, below_low}
use Rattle.search.specs.Starts.{longest_run}
use Rattle.finder.proofs.is_run.Goals as goal

pub returns-then-count-ge64 : goal.returns-then-count-ge64
returns-then-count-ge64 c = within_rest 64 longest_run _ c.if-count-ge64.true

pub returns-else-count-ge64 : goal.returns-else-count-ge64
returns-else-count-ge64 c = lt-leb 64 _ c.if-count-ge64.false ∙ sym (below_low 64 longest_run _ c.if-count-ge64.false)
