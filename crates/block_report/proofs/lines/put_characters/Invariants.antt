-- Before each turn the lines of the first q characters are put, of at most 110 bytes each.
use Rattle.std.proofs.Common.{◌*◌, ◌≤◌}
use Rattle.block_report.specs.Lines.{characters_text}
use Rattle.text.proofs.Puts.{Put}
use Rattle.block_report.proofs.lines.put_characters.Given as goal

abbrev pub invariant-loop-q : goal.invariant-loop-q
invariant-loop-q l = Put (characters_text l.block l.characters l.q) l.initial.out l.at l.out × (l.at ≤ 110 * l.q)
