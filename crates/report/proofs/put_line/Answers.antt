use native.Mathlib.Omega.{arith}
use lib.ListN.{length, length-append}
use Rattle.std.proofs.Common.{◌≤◌, ◌++◌}
use Rattle.text.specs.Ascii.{line_feed}
use Rattle.text.specs.Decimal.{field}
use Rattle.text.proofs.Decimals.{field_length}
use Rattle.text.proofs.Puts.{put_whole}
use Rattle.report.proofs.Puts.{put_short, put_fitting}
use Rattle.report.proofs.put_line.Goals as goal

pub returns-then-out-lt-ROOM : goal.returns-then-out-lt-ROOM
returns-then-out-lt-ROOM c = let all = put_short _ _ c.if-out-lt-ROOM.true in record { answer = all.0; output = all.1 }

pub returns : goal.returns
returns c =
    let put = c.put_labelled.ensures in
    let out = c.args.out.now in
    let number = field c.args.n line_feed in
    let fits : length (c.args.label.now ++ number) ≤ length out =
    omega (arith, length-append c.args.label.now number, c.requires, field_length c.args.n line_feed (omega arith), c.if-out-lt-ROOM.false) in
    let all = put_fitting _ out c.if-out-lt-ROOM.false (put_whole _ out fits (put.answer, put.output)) in
    record { answer = all.0; output = all.1 }
