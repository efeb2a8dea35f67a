-- Before each turn the rows that are left decide what the bytes are read as.
use Rattle.std.proofs.Common.{◌≡◌, ◌∙◌, sym, ap, max, arith, Err}
use Rattle.refusal.proofs.Numbers.{reason_is}
use Rattle.sentence.proofs.RowCases.{max_is, read_none, row_pattern, read_found, read_more}
use Rattle.sentence.proofs.rows.read.Goals as goal

pub match_pattern-requires : goal.match_pattern-requires
match_pattern-requires c =
    let l = c.loop-row in
    row_pattern c.args.rows.now c.args.bytes.now l.row-index l.best l.invariant _ c.loop-row-test.true

pub returns-in-Ok : goal.returns-in-Ok
returns-in-Ok c =
    let l = c.loop-row in
    let reason = reason_is c.from.result _ c.from.ensures in
    rw reason
    (read_found c.args.rows.now c.args.bytes.now l.row-index l.best l.invariant _ c.loop-row-test.true c.in-Ok.place c.in-Ok.lead
    (sym c.in-Ok.is ∙ c.match_pattern.ensures))

pub loop-row-preserved : goal.loop-row-preserved
loop-row-preserved c =
    let l = c.loop-row in
    let longest : c.max-best.result ≡ max l.best c.in-Err.shared = omega (arith, c.max-best.ensures, max_is l.best c.in-Err.shared) in
    rw longest
    (read_more c.args.rows.now c.args.bytes.now l.row-index l.best l.invariant _ c.loop-row-test.true c.in-Err.shared
    (sym c.in-Err.is ∙ c.match_pattern.ensures))

pub returns : goal.returns
returns c =
    let l = c.loop-row in
    ap Err c.at.ensures ∙ read_none c.args.rows.now c.args.bytes.now l.row-index l.best l.invariant (omega arith)
