use native.Mathlib.Numerals.{add-one}
use native.Mathlib.Omega.{arith}
use Rattle.std.proofs.Common.{◌≡◌, length}
use Rattle.block_report.specs.Lines.{characters_text}
use Rattle.text.proofs.Puts.{put_none, put_after}
use Rattle.block_report.proofs.lines.put_characters.Goals as goal

pub loop-q-init : goal.loop-q-init
unfolding characters_text
loop-q-init c = (put_none c.args.out.now, omega arith)

pub loop-q-preserved : goal.loop-q-preserved
unfolding characters_text
loop-q-preserved c =
    let l = c.loop-q in
    let put = c.put_character-at.ensures in
    (rw (add-one l.q) (put_after _ _ l.invariant.0 _ (put.answer, put.output)), omega (arith, l.invariant.1, put.short))

pub returns : goal.returns
returns c =
    let l = c.loop-q in
    let e : l.q ≡ length c.args.characters.now = omega arith in
    record { answer = rw e at l.invariant.0.0; output = rw e at l.invariant.0.1 }
