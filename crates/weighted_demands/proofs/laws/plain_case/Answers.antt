use Rattle.weighted_demands.proofs.Multiples.{plain_case_law}
use Rattle.weighted_demands.proofs.laws.plain_case.Goals as goal

pub returns : goal.returns
returns c = plain_case_law
