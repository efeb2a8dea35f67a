-- Before each turn the rows that are left have the number's pattern.
use Rattle.sentence.proofs.RowCases.{PatternLeft}
use Rattle.sentence.proofs.rows.pattern_of.Given as goal

abbrev pub invariant-loop-row : goal.invariant-loop-row
invariant-loop-row l = PatternLeft l.rows l.number l.row-index
