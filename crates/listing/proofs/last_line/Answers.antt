use Rattle.std.proofs.Common.{sym, ◌∙◌, ap}
use Rattle.lists.specs.Lists.{over}
use Rattle.lists.proofs.Fronts.{over_none}
use Rattle.stages.specs.Stages.{Said}
use Rattle.listing.proofs.LastLine.{nothing_last}
use Rattle.listing.proofs.last_line.Goals as goal

pub returns-then-is_blank-clause-output : goal.returns-then-is_blank-clause-output
returns-then-is_blank-clause-output c =
    let out = c.args.out.now in
    let same = nothing_last c.args.listing c.args.tones.now (sym c.is_blank.ensures ∙ c.if-is_blank.true) in
    over_none out ∙ ap (λ (x : Said). over x.text out) (sym same)
