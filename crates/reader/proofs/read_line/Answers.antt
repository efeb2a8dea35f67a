use Rattle.std.proofs.Common.{◌≡◌, sym, ap, ◌∙◌, false}
use mathlib.Core.Logic.{◌⊎◌, inl, inr}
use Rattle.text.specs.Ascii.{hyphen}
use native.Mathlib.Omega.{arith}
use Rattle.reader.specs.declared.Line.{Line}
use Rattle.reader.specs.declared.Word.{Word}
use Rattle.reader.proofs.ReaderCases.{at_space, at_digit, at_mark, at_no_word, digit_no_feed}
use Rattle.reader.proofs.Stretches.{reads_byte, all_read, feed_first, none_left, end_place}
use Rattle.reader.proofs.read_line.Goals as goal
use Rattle.reader.proofs.read_line.Goals.{
  then-is_ascii_digit,
  else-is_ascii_digit+else-byte-eq-LINE_FEED+then-byte-eq-SPACE,
  else-is_ascii_digit+else-byte-eq-LINE_FEED+else-byte-eq-SPACE+then-byte-eq45+then-marks,
  else-is_ascii_digit+else-byte-eq-LINE_FEED+else-byte-eq-SPACE+else-byte-eq45,
  else-byte-eq45-via-then-byte-eq45+else-marks,
  else-byte-eq45-via-else-byte-eq45,
}

pub returns-then-byte-eq-LINE_FEED : goal.returns-then-byte-eq-LINE_FEED
returns-then-byte-eq-LINE_FEED c =
    let all = all_read _ _ _ _ _ c.loop-at.invariant (feed_first _ _ (omega arith) c.if-byte-eq-LINE_FEED.true) in
    record { answer = all.0; output = all.1 }

abbrev with_word : Line → Word → Line
with_word line word = record { word = word; count = line.count }

pub loop-at-preserved : goal.loop-at-preserved
loop-at-preserved c =
    let l = c.loop-at in
    let digit = sym c.is_ascii_digit.ensures.value in
    elim c.if-is_ascii_digit.branch [
      | then-is_ascii_digit w ↦
          let is = digit ∙ w.if-is_ascii_digit.true in
          let next = at_digit _ _ _ l.tones is in
          reads_byte _ _ _ _ _ l.invariant (omega arith) (digit_no_feed _ is)
          (w.line-is ∙ ap (with_word l.line) w.with_digit-line.ensures ∙ next.0) (w.tones-is ∙ next.1)
      | else-is_ascii_digit+else-byte-eq-LINE_FEED+then-byte-eq-SPACE w ↦
          let next = at_space c.args.marks l.line _ l.tones w.if-byte-eq-SPACE.true in
          let ended = w.word_end-line.ensures in
          reads_byte _ _ _ _ _ l.invariant (omega arith) w.if-byte-eq-LINE_FEED.false
          (w.line-is ∙ ended.answer ∙ next.0) (w.tones-is ∙ ended.output ∙ next.1)
      | else-is_ascii_digit+else-byte-eq-LINE_FEED+else-byte-eq-SPACE+then-byte-eq45+then-marks w ↦
          let next = at_mark _ _ _ l.tones w.if-byte-eq45.true w.if-marks.true in
          reads_byte _ _ _ _ _ l.invariant (omega arith) w.if-byte-eq-LINE_FEED.false
          (w.line-is ∙ ap (with_word l.line) w.with_mark-line.ensures ∙ next.0) (w.tones-is ∙ next.1)
      | else-is_ascii_digit+else-byte-eq-LINE_FEED+else-byte-eq-SPACE+else-byte-eq45 w ↦
          let none : (c.args.marks ≡ false) ⊎ (_ ≡ hyphen → ⊥) = elim w.else-byte-eq45.branch [
            | else-byte-eq45-via-then-byte-eq45+else-marks v ↦ inl v.if-marks.false
            | else-byte-eq45-via-else-byte-eq45 v ↦ inr v.if-byte-eq45.false
          ] in
          let next = at_no_word _ _ _ l.tones (digit ∙ w.if-is_ascii_digit.false) w.if-byte-eq-SPACE.false none in
          reads_byte _ _ _ _ _ l.invariant (omega arith) w.if-byte-eq-LINE_FEED.false (w.line-is ∙ next.0) (w.tones-is ∙ next.1)
    ]

pub returns : goal.returns
returns c =
    let l = c.loop-at in
    let end : c.max.result ≡ l.at = c.max.ensures ∙ end_place _ _ _ _ _ l.invariant l.auto.at-end (omega arith) (omega arith) in
    let all = all_read _ _ _ _ _ c.loop-at.invariant (none_left _ _ (omega arith)) in
    rw end (record { answer = all.0; output = all.1 })
