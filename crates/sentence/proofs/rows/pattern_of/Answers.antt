-- Before each turn the rows that are left have the number's pattern.
use Rattle.std.proofs.Common.{sym, ◌∙◌, arith}
use Rattle.sentence.proofs.RowCases.{pattern_none, pattern_found, pattern_later}
use Rattle.sentence.proofs.rows.pattern_of.Goals as goal

pub returns-then-from-number : goal.returns-then-from-number
returns-then-from-number c =
    let l = c.loop-row in
    pattern_found c.args.rows.now c.args.number l.row-index l.invariant _ c.loop-row-test.true
    (sym c.from.ensures ∙ c.if-from-number.true)

pub loop-row-preserved : goal.loop-row-preserved
loop-row-preserved c =
    let l = c.loop-row in
    pattern_later c.args.rows.now c.args.number l.row-index l.invariant _ c.loop-row-test.true
    (λ e. c.if-from-number.false (c.from.ensures ∙ e))

pub returns : goal.returns
returns c =
    let l = c.loop-row in
    pattern_none c.args.rows.now c.args.number l.row-index l.invariant (omega arith)
