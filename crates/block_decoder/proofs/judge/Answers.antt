use Rattle.std.proofs.Common.{◌≡◌, sym, ◌∙◌, lt-ltb, le-ltb}
use Rattle.lists.proofs.Places.{scan_start, scan_hit, scan_miss, scan_end}
use Rattle.block_decoder.specs.Internal.{first_unclear_in, judgement_in}
use Rattle.block_decoder.proofs.judge.Goals as goal

pub loop-q-init : goal.loop-q-init
unfolding first_unclear_in
loop-q-init c = scan_start _ _

pub returns-then-character-least_lead : goal.returns-then-character-least_lead
unfolding judgement_in
returns-then-character-least_lead c =
    let l = c.loop-q in
    let a = c.args in
    let unclear : first_unclear_in a.mode a.least_lead a.characters ≡ l.q =
    sym l.invariant ∙ scan_hit _ l.q _ c.loop-q-test.true (lt-ltb _ _ c.if-character-least_lead.true) in
    rw (unclear, lt-ltb l.q a.mode c.loop-q-test.true, c.unclear.ensures)

pub loop-q-preserved : goal.loop-q-preserved
loop-q-preserved c = scan_miss _ c.loop-q.q _ c.loop-q-test.true (le-ltb _ _ c.if-character-least_lead.false) ∙ c.loop-q.invariant

pub returns : goal.returns
unfolding judgement_in
returns c =
    let l = c.loop-q in
    let a = c.args in
    let clear : first_unclear_in a.mode a.least_lead a.characters ≡ l.q = sym l.invariant ∙ scan_end _ l.q _ c.loop-q-test.false in
    rw (clear, le-ltb l.q a.mode c.loop-q-test.false)
