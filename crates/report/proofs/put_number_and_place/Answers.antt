-- The place is put into what the number leaves of the output.
use Rattle.std.proofs.Common.{◌++◌, ◌≤◌}
use native.Mathlib.Omega.{arith}
use Rattle.lists.specs.Lists.{tab}
use Rattle.text.specs.Ascii.{ascii, line_feed, space}
use Rattle.text.specs.Decimal.{field}
use Rattle.text.proofs.Decimals.{field_length}
use Rattle.report.specs.Output.{refused_text}
use Rattle.text.proofs.Puts.{Put, put_whole, put_after, put_within, put_rest}
use Rattle.report.proofs.put_number_and_place.Goals as goal
use Rattle.report.proofs.put_number_and_place.Goals.{After-put_labelled-place, After-put_field}

module _ (c : After-put_labelled-place) where
  number : let p = c.put_labelled-place in Put (ascii "REFUSED " ++ field c.from-number.result space) c.args.out.now p.result p.new.out
  unfolding ascii tab
  number =
      let p = c.put_labelled-place.ensures in
      put_whole _ _ (omega (arith, field_length c.from-number.result space (omega arith))) (p.answer, p.output)

  number_short : c.put_labelled-place.result ≤ 29
  unfolding ascii tab
  number_short = omega (arith, number.0, field_length c.from-number.result space (omega arith))

pub slice_bounds-put_field-count : goal.slice_bounds-put_field-count
slice_bounds-put_field-count c =
    let put = (goal.at.slice_bounds-put_field-count c).After-put_labelled-place in
    put_within _ _ (number put) (omega (arith, number_short put))

pub slice_bounds-put_field-start : goal.slice_bounds-put_field-start
slice_bounds-put_field-start c = slice_bounds-put_field-count c

pub overflow_add-result : goal.overflow_add-result
overflow_add-result c =
    let put = (goal.at.overflow_add-result c).After-put_labelled-place in
    let f = c.put_field.ensures in
    let place = field_length c.args.refusal.place line_feed (omega arith) in
    omega (arith, number_short put, place, (put_rest _ _ (number put) _ (omega (arith, number_short put, place)) (f.answer, f.output)).0)

pub returns : goal.returns
unfolding refused_text
returns c =
    let put = (goal.at.returns c).After-put_labelled-place in
    let f = c.put_field.ensures in
    let place = field_length c.args.refusal.place line_feed (omega arith) in
    let all = put_after _ _ (number put) _ (put_rest _ _ (number put) _ (omega (arith, number_short put, place)) (f.answer, f.output)) in
    rw (← c.number.ensures, ← c.from-number.ensures) (record { answer = all.0; output = all.1 })
