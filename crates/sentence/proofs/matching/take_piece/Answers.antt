-- Each answer is one of the cases of a piece.
use Rattle.std.proofs.Common.{◌∙◌}
use Rattle.sentence.proofs.PieceCases.{piece_at_place, piece_at_lead, piece_none, piece_first}
use Rattle.sentence.proofs.matching.take_piece.Goals as goal

pub returns-in-35-default : goal.returns-in-35-default
returns-in-35-default c = c.scan.ensures ∙ piece_at_place c.args.p c.args.bytes.now c.in-35-default.is-0

pub returns-in-37-default : goal.returns-in-37-default
returns-in-37-default c = c.scan-in-37-default.ensures ∙ piece_at_lead c.args.p c.args.bytes.now c.in-37-default.is-0

pub returns-in_default-empty : goal.returns-in_default-empty
returns-in_default-empty c =
    let other = c.in_default-empty.is-0 in
    piece_none c.args.p c.args.bytes.now other.0.1 other.1 c.in_default-empty.len_below

pub returns-in_default-len1-up : goal.returns-in_default-len1-up
returns-in_default-len1-up c =
    let other = c.in_default-len1-up.is-0 in
    c.then_some.ensures ∙ piece_first c.args.p c.args.bytes.now other.0.1 other.1 c.in_default-len1-up.len_at_least
