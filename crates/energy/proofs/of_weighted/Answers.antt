use Rattle.energy.proofs.of_weighted.Goals as goal

pub returns : goal.returns
returns c = c.of_heard.ensures
