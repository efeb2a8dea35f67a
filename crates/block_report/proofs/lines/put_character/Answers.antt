-- The words are put into what the rest of the line leaves of the output.
use native.Mathlib.Omega.{arith}
use Rattle.block_report.specs.Lines.{character_text}
use Rattle.text.proofs.Puts.{put_after}
use Rattle.block_report.proofs.lines.put_character.Goals as goal

pub returns : goal.returns
unfolding character_text
returns c =
    let first = c.put_decided-words.ensures in
    let second = c.put_words.ensures in
    let all = put_after _ _ (first.answer, first.output) _ (second.answer, second.output) in
    record { answer = all.0; output = all.1; short = omega (arith, first.short, second.short) }
