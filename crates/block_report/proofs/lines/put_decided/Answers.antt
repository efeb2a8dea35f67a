-- Code and lead are put into what the place leaves of the output.
use Rattle.std.proofs.Common.{◌+◌, ◌≤◌}
use native.Mathlib.Omega.{arith}
use lib.ListN.{length-append}
use Rattle.text.specs.Ascii.{space}
use Rattle.text.specs.Decimal.{field}
use Rattle.text.proofs.Decimals.{field_length_32}
use Rattle.block_report.specs.Lines.{place_text, decided_text}
use Rattle.text.proofs.Puts.{put_after}
use Rattle.block_report.proofs.lines.put_decided.Goals as goal

pub returns : goal.returns
unfolding decided_text place_text
returns c =
    let first = c.put_pair-code.ensures in
    let second = c.put_pair.ensures in
    let code = c.from.result in
    let lead = c.from-lead.result in
    let all = put_after _ _ (first.answer, first.output) _ (second.answer, second.output) in
    let short : c.put_pair-code.result + c.put_pair.result ≤ 64 = omega (
      arith,
      first.short,
      second.answer,
      length-append (field code space) (field lead space),
      field_length_32 code space (omega (arith, c.from.ensures)),
      field_length_32 lead space (omega (arith, c.from-lead.ensures)),
    ) in
    rw (← c.from.ensures, ← c.from-lead.ensures) (record { answer = all.0; output = all.1; short = short })
