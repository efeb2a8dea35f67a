use Rattle.std.proofs.Common.{◌≡◌, sym, ◌∙◌, true, false}
use Rattle.sentence.specs.Patterns.{lead_mark, has, most_lead_of}
use Rattle.sentence.proofs.WriteCases.{contains_has}
use Rattle.sentence.proofs.writing.most_lead.Goals as goal

pub returns-then-contains : goal.returns-then-contains
unfolding most_lead_of
returns-then-contains c =
    let ps = c.args.pattern.now in
    let e : has lead_mark ps ≡ true = sym (contains_has lead_mark ps) ∙ sym c.contains.ensures.value ∙ c.if-contains.true in rw e

pub returns-else-contains : goal.returns-else-contains
unfolding most_lead_of
returns-else-contains c =
    let ps = c.args.pattern.now in
    let e : has lead_mark ps ≡ false = sym (contains_has lead_mark ps) ∙ sym c.contains.ensures.value ∙ c.if-contains.false in rw e
