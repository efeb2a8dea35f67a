use Rattle.report.proofs.Puts.{put_short, put_fitting}
use Rattle.report.proofs.put_refused.Goals as goal

pub returns-then-out-lt-ROOM : goal.returns-then-out-lt-ROOM
returns-then-out-lt-ROOM c = let all = put_short _ _ c.if-out-lt-ROOM.true in record { answer = all.0; output = all.1 }

pub returns : goal.returns
returns c = let all = put_fitting _ _ c.if-out-lt-ROOM.false (c.put_number_and_place.ensures.answer, c.put_number_and_place.ensures.output) in record { answer = all.0; output = all.1 }
