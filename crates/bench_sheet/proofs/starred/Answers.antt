use Rattle.bench_sheet.proofs.Computed.{starred_law}
use Rattle.bench_sheet.proofs.starred.Goals as goal

pub returns : goal.returns
returns c = starred_law
