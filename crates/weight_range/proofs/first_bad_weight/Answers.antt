use Rattle.std.proofs.Common.{sym, ◌∙◌, ltb-false}
use Rattle.lists.proofs.Found.{found_past}
use Rattle.weight_range.proofs.Ranges.{weight_found}
use Rattle.weight_range.proofs.first_bad_weight.Goals as goal

pub returns-then-has_bad_weight : goal.returns-then-has_bad_weight
returns-then-has_bad_weight c = c.first_above.ensures ∙ weight_found _ _

pub returns-else-has_bad_weight : goal.returns-else-has_bad_weight
returns-else-has_bad_weight c = sym (found_past _ _ (ltb-false _ _ (sym c.has_bad_weight.ensures ∙ c.if-has_bad_weight.false)))
