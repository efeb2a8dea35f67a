use mathlib.Core.List.{◌++◌}
use native.Mathlib.Omega.{arith}
use lib.ListN.{length}
use Rattle.text.specs.Decimal.{field}
use Rattle.text.proofs.Decimals.{field_some}
use Rattle.text.proofs.Labels.{label_short, field_short, label_put}
use Rattle.text.proofs.Writing.{written_within}
use Rattle.text.proofs.put_labelled.Goals as goal

pub returns-then-out-at : goal.returns-then-out-at
returns-then-out-at c =
    let a = c.args in
    let short = label_short a.label.now (field a.n a.end) a.out.now c.if-out-at.true in record { answer = short.0; output = short.1 }

pub returns-then-count-eq0 : goal.returns-then-count-eq0
returns-then-count-eq0 c =
    let a = c.args in
    let put = c.put_field-count.ensures in
    let short = field_short a.label.now (field a.n a.end) a.out.now (field_some a.n a.end) (omega arith) (put.answer, put.output) c.if-count-eq0.true in record { answer = short.0; output = short.1 }

pub overflow_add-result : goal.overflow_add-result
overflow_add-result c =
    let a = c.args in
    let put = c.put_field-count.ensures in
    let text = c.put_text.ensures in
    let both = label_put a.label.now (field a.n a.end) a.out.now (field_some a.n a.end) (omega arith) (put.answer, put.output) c.if-count-eq0.false (text.answer, text.output) in
    omega (arith, both.0, written_within (a.label.now ++ field a.n a.end) (length a.out.now))

pub returns : goal.returns
returns c =
    let a = c.args in
    let put = c.put_field-count.ensures in
    let text = c.put_text.ensures in
    let both = label_put a.label.now (field a.n a.end) a.out.now (field_some a.n a.end) (omega arith) (put.answer, put.output) c.if-count-eq0.false (text.answer, text.output) in record { answer = both.0; output = both.1 }
