use Rattle.std.proofs.Common.{◌≡◌, length, sym, ap, ◌∙◌}
use native.Mathlib.Omega.{arith}
use borrow.Author.Rules.{rules}
use Rattle.block_report.specs.Lines.{characters_text}
use Rattle.block_report.proofs.BlockTexts.{text_accepted, text_taken}
use Rattle.text.proofs.Puts.{put_as}
use Rattle.report.proofs.Puts.{put_short, put_fitting}
use Rattle.block_report.proofs.put_block.Goals as goal

pub returns-then-out-lt-ROOM : goal.returns-then-out-lt-ROOM
returns-then-out-lt-ROOM c = let all = put_short _ _ c.if-out-lt-ROOM.true in record { answer = all.0; output = all.1 }

pub returns-in-Ok : goal.returns-in-Ok
returns-in-Ok c =
    let put = c.put_characters.ensures in
    let characters = c.args.decoded.characters in
    let size : length characters ≡ 8 = search rules in
    let within = text_taken c.args.block characters c.min.result (omega (arith, size, c.min.ensures)) in
    let taken = ap (characters_text _ _) (sym c.min.ensures) ∙ sym within in
    let all = put_fitting _ _ c.if-out-lt-ROOM.false (put_as _ (text_accepted _ _ _ c.in-Ok.is ∙ taken) (put.answer, put.output)) in
    record { answer = all.0; output = all.1 }
