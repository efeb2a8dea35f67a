use Rattle.judge.proofs.StageCases.{closes_stopped}
use Rattle.stages.proofs.Tellings.{tells_as, tells_nothing}
use Rattle.judge.proofs.close.Goals as goal

pub returns-in-Stopped : goal.returns-in-Stopped
returns-in-Stopped c =
    let out = c.args.out.now in
    let told = tells_as out (closes_stopped _ _ c.in-Stopped.is) (tells_nothing out c.stopped.ensures) in
    record { answer = told.0; kept = c.end_line-line.ensures.output; output = told.1 }
