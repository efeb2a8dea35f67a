-- The second number is put into what the first leaves of the output.
use Rattle.std.proofs.Common.{◌≤◌}
use native.Mathlib.Omega.{arith}
use Rattle.text.specs.Ascii.{space}
use Rattle.text.specs.Decimal.{field}
use Rattle.text.proofs.Decimals.{field_length}
use Rattle.text.proofs.Puts.{Put, put_whole, put_after, put_within, put_rest}
use Rattle.block_report.proofs.lines.put_pair.Goals as goal
use Rattle.block_report.proofs.lines.put_pair.Goals.{After-put_field-at, After-put_field}

module _ (c : After-put_field-at) where
  first : Put (field c.args.first space) c.args.out.now c.put_field-at.result c.put_field-at.new.out
  first =
      let f = c.put_field-at.ensures in
      put_whole _ _ (omega (arith, c.requires, field_length c.args.first space (omega arith))) (f.answer, f.output)

  first_short : c.put_field-at.result ≤ 21
  first_short = omega (arith, first.0, field_length c.args.first space (omega arith))

pub slice_bounds-put_field-count : goal.slice_bounds-put_field-count
slice_bounds-put_field-count c =
    let put = (goal.at.slice_bounds-put_field-count c).After-put_field-at in
    put_within _ _ (first put) (omega (arith, first_short put, c.requires))

pub slice_bounds-put_field-start : goal.slice_bounds-put_field-start
slice_bounds-put_field-start c = slice_bounds-put_field-count c

pub overflow_add-result : goal.overflow_add-result
overflow_add-result c =
    let put = (goal.at.overflow_add-result c).After-put_field-at in
    let f = c.put_field.ensures in
    let second = field_length c.args.second c.args.end (omega arith) in
    omega (arith, first_short put, second, (put_rest _ _ (first put) _ (omega (arith, c.requires, first_short put, second)) (f.answer, f.output)).0)

pub returns : goal.returns
returns c =
    let put = (goal.at.returns c).After-put_field-at in
    let f = c.put_field.ensures in
    let second = field_length c.args.second c.args.end (omega arith) in
    let rest = put_rest _ _ (first put) _ (omega (arith, c.requires, first_short put, second)) (f.answer, f.output) in
    let all = put_after _ _ (first put) _ rest in
    record { answer = all.0; output = all.1; short = omega (arith, first_short put, second, rest.0) }
