use Rattle.std.proofs.Common.{rules, ◌≡◌, ◌∙◌, eqb, count_by}
use Rattle.chain.specs.Chain.{missing_mark}
use Rattle.trial.proofs.Tallies.{missing_counted}
use Rattle.trial.proofs.counts.missing_in.Goals as goal

pub returns : goal.returns
returns c =
    let counted : c.count.result ≡ count_by (λ tone. eqb tone missing_mark) c.args.heard.now = search rules in
    counted ∙ missing_counted c.args.heard.now
