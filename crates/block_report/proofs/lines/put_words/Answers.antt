-- The next word is put into what the word leaves of the output.
use native.Mathlib.Omega.{arith}
use mir.Facts.{to_z-of_z}
use Rattle.block_report.specs.Lines.{words_text}
use Rattle.block_report.proofs.Elements.{correlations_fit}
use Rattle.text.proofs.Puts.{put_after}
use Rattle.block_report.proofs.lines.put_words.Goals as goal

pub returns : goal.returns
unfolding words_text
returns c =
    let fit = correlations_fit c.args.character _ c.well_formed.0 in
    let first = c.put_word-next.ensures in
    let second = c.put_word.ensures in
    let all = put_after _ _ (rw (to_z-of_z fit.0) at first.answer, rw (to_z-of_z fit.0) at first.output) _
    (rw (to_z-of_z fit.1) at second.answer, rw (to_z-of_z fit.1) at second.output) in
    record { answer = all.0; output = all.1; short = omega (arith, first.short, second.short) }
