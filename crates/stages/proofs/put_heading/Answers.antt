use native.Mathlib.Omega.{arith}
use Rattle.lists.specs.Lists.{tab}
use Rattle.text.specs.Ascii.{ascii}
use Rattle.report.specs.Output.{heading}
use Rattle.text.proofs.Puts.{put_whole}
use Rattle.stages.proofs.put_heading.Goals as goal

pub returns : goal.returns
unfolding heading ascii tab
returns c = let all = put_whole heading c.args.out.now (omega arith) (c.put_text.ensures.answer, c.put_text.ensures.output) in record { answer = all.0; output = all.1 }
