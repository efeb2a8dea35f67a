-- Before each turn the rows that are left decide what the bytes are read as.
use Rattle.sentence.proofs.RowCases.{ReadLeft}
use Rattle.sentence.proofs.rows.read.Given as goal

abbrev pub invariant-loop-row : goal.invariant-loop-row
invariant-loop-row l = ReadLeft l.rows l.bytes l.row-index l.best
