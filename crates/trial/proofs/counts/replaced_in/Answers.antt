use Rattle.std.proofs.Common.{rules, tests, ◌∙◌}
use Rattle.std.proofs.lemmas.Iterator.{YieldsList-from_slice, YieldsList-from_zip}
use Rattle.std.proofs.lemmas.Iterator.Consumers.{YieldsList-from_filter, count_from_yields_List}
use Rattle.std.proofs.lemmas.List.Sums.{length-filter}
use Rattle.std.specs.List.{zip}
use Rattle.trial.proofs.Tallies.{replaced, replaced_counted}
use Rattle.trial.proofs.counts.replaced_in.Goals as goal

pub returns : goal.returns
returns c =
    let a = c.args in
    count_from_yields_List c.filter.result c.count.result c.count.ensures.ran
    (YieldsList-from_filter _ replaced
    (YieldsList-from_zip (YieldsList-from_slice a.sent.now cc) (YieldsList-from_slice a.heard.now cc))
    c.filter.ensures.closure (λ x r q k. search (rules, tests)))
    ∙ length-filter replaced (zip a.sent.now a.heard.now)
    ∙ replaced_counted a.sent.now a.heard.now
