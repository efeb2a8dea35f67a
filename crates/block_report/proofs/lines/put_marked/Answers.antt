-- The mark and the lead are put into what the place leaves of the output.
use Rattle.std.proofs.Common.{◌++◌, ◌≤◌, ℕ, ◌<◌, ◌^◌, length}
use native.Mathlib.Omega.{arith}
use Rattle.lists.specs.Lists.{tab}
use Rattle.text.specs.Ascii.{ascii, space}
use Rattle.text.specs.Decimal.{field}
use Rattle.text.proofs.Decimals.{field_length_32}
use Rattle.block_report.specs.Lines.{place_text, marked_text}
use Rattle.text.proofs.Puts.{put_after, put_rest}
use Rattle.block_report.proofs.lines.put_marked.Goals as goal

lead_short : (lead : ℕ) → lead < 2 ^ 32 → length (ascii "- " ++ field lead space) ≤ 13
unfolding ascii tab
lead_short lead h = omega (arith, field_length_32 lead space h)

pub overflow_add-result : goal.overflow_add-result
unfolding ascii tab
overflow_add-result c =
    let place = c.put_pair-mark.ensures in
    let put = c.put_labelled.ensures in
    let lead = lead_short c.from.result (omega (arith, c.from.ensures)) in
    let rest = put_rest _ _ (place.answer, place.output) _ (omega (arith, c.requires, place.short, lead)) (put.answer, put.output) in
    omega (arith, place.short, lead, rest.0)

pub returns : goal.returns
unfolding marked_text place_text ascii tab
returns c =
    let place = c.put_pair-mark.ensures in
    let put = c.put_labelled.ensures in
    let lead = lead_short c.from.result (omega (arith, c.from.ensures)) in
    let rest = put_rest _ _ (place.answer, place.output) _ (omega (arith, c.requires, place.short, lead)) (put.answer, put.output) in
    let all = put_after _ _ (place.answer, place.output) _ rest in
    rw (← c.from.ensures) (record { answer = all.0; output = all.1; short = omega (arith, place.short, lead, rest.0) })
