-- Before each turn the text of the bytes passed is put.
use Rattle.std.proofs.Common.{◌+◌, ◌≤◌, length, get_or, arith}
use Rattle.text.proofs.Puts.{put_none, put_as, put_after, put_within, put_rest}
use Rattle.sentence.specs.Patterns.{piece_text, filled}
use Rattle.sentence.proofs.Fillings.{filled_more, filled_room}
use Rattle.sentence.proofs.writing.put_filled.Goals as goal
use Rattle.sentence.proofs.writing.put_filled.Goals.{In-loop-p}

pub loop-p-init : goal.loop-p-init
unfolding filled
loop-p-init c = put_none c.args.out.now

-- the next piece has room
room : (c : In-loop-p)
    → c.loop-p.at + length (piece_text c.args.place c.args.lead (get_or c.args.pattern.now c.loop-p.p-index 0)) ≤ length c.args.out.now
room c =
    let l = c.loop-p in
    omega (arith, l.invariant.0, c.requires, filled_room c.args.place c.args.lead c.args.pattern.now l.p-index c.loop-p-test.true)

pub slice_bounds-put_piece-count : goal.slice_bounds-put_piece-count
slice_bounds-put_piece-count c = put_within _ _ c.loop-p.invariant (omega (arith, room (goal.at.slice_bounds-put_piece-count c).In-loop-p))

pub slice_bounds-put_piece-start : goal.slice_bounds-put_piece-start
slice_bounds-put_piece-start c = slice_bounds-put_piece-count c

pub overflow_add-at : goal.overflow_add-at
overflow_add-at c =
    let h = room (goal.at.overflow_add-at c).In-loop-p in
    let e = c.put_piece-at.ensures in
    omega (arith, h, (put_rest _ _ c.loop-p.invariant _ h (e.answer, e.output)).0)

pub loop-p-preserved : goal.loop-p-preserved
loop-p-preserved c =
    let l = c.loop-p in
    let e = c.put_piece-at.ensures in
    put_as c.args.out.now (filled_more c.args.place c.args.lead c.args.pattern.now l.p-index c.loop-p-test.true)
    (put_after _ _ l.invariant _ (put_rest _ _ l.invariant _ (room (goal.at.loop-p-preserved c).In-loop-p) (e.answer, e.output)))
