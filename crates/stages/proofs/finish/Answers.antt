use Rattle.report.proofs.Puts.{put_nothing}
use Rattle.stages.specs.Stages.{ending_text}
use Rattle.stages.proofs.finish.Goals as goal

pub returns-in-Stopped : goal.returns-in-Stopped
unfolding ending_text
returns-in-Stopped c = let none = put_nothing c.args.out.now in record { answer = rw c.in-Stopped.is none.0; output = rw c.in-Stopped.is none.1 }
