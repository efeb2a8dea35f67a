-- The words are put into what the rest of the line leaves of the output.
use Rattle.block_report.specs.Lines.{unclear_text}
use Rattle.text.proofs.Puts.{put_after}
use Rattle.block_report.proofs.lines.put_unclear.Goals as goal

pub returns : goal.returns
unfolding unclear_text
returns c =
    let first = c.put_marked-words.ensures in
    let second = c.put_words.ensures in
    let all = put_after _ _ (first.answer, first.output) _ (second.answer, second.output) in
    record { answer = all.0; output = all.1 }
