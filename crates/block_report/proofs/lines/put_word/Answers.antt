-- The correlation is put into what the word leaves of the output.
use Rattle.std.proofs.Common.{◌≤◌}
use native.Mathlib.Omega.{arith}
use lib.Signed.{nat_abs-le}
use mir.Facts.{to_z-of_z}
use Rattle.text.specs.Ascii.{space}
use Rattle.text.specs.Decimal.{field}
use Rattle.text.proofs.Decimals.{field_length_32, signed_field_length}
use Rattle.text.proofs.Puts.{Put, put_whole, put_after, put_within, put_rest}
use Rattle.block_report.specs.Lines.{word_text}
use Rattle.block_report.proofs.lines.put_word.Goals as goal
use Rattle.block_report.proofs.lines.put_word.Goals.{After-put_field-at}

module _ (c : After-put_field-at) where
  first : Put (field c.args.word space) c.args.out.now c.put_field-at.result c.put_field-at.new.out
  first =
      let f = c.put_field-at.ensures in
      put_whole _ _ (omega (arith, c.requires, field_length_32 c.args.word space (omega arith)))
      (rw c.from.ensures at f.answer, rw c.from.ensures at f.output)

  first_short : c.put_field-at.result ≤ 11
  first_short = omega (arith, first.0, field_length_32 c.args.word space (omega arith))

pub slice_bounds-put_signed_field-count : goal.slice_bounds-put_signed_field-count
slice_bounds-put_signed_field-count c =
    let put = (goal.at.slice_bounds-put_signed_field-count c).After-put_field-at in
    put_within _ _ (first put) (omega (arith, first_short put, c.requires))

pub slice_bounds-put_signed_field-start : goal.slice_bounds-put_signed_field-start
slice_bounds-put_signed_field-start c = slice_bounds-put_signed_field-count c

pub overflow_add-result : goal.overflow_add-result
overflow_add-result c =
    let put = (goal.at.overflow_add-result c).After-put_field-at in
    let f = c.put_signed_field.ensures in
    let same = to_z-of_z c.ranges.correlation in
    let second = signed_field_length c.args.correlation c.args.end (omega (arith, nat_abs-le c.args.correlation c.ranges.correlation.sfits)) in
    let rest = put_rest _ _ (first put) _ (omega (arith, c.requires, first_short put, second)) (rw same at f.answer, rw same at f.output) in
    omega (arith, first_short put, second, rest.0)

pub returns : goal.returns
unfolding word_text
returns c =
    let put = (goal.at.returns c).After-put_field-at in
    let f = c.put_signed_field.ensures in
    let same = to_z-of_z c.ranges.correlation in
    let second = signed_field_length c.args.correlation c.args.end (omega (arith, nat_abs-le c.args.correlation c.ranges.correlation.sfits)) in
    let rest = put_rest _ _ (first put) _ (omega (arith, c.requires, first_short put, second)) (rw same at f.answer, rw same at f.output) in
    let all = put_after _ _ (first put) _ rest in
    record { answer = all.0; output = all.1; short = omega (arith, first_short put, second, rest.0) }
