use Rattle.std.proofs.Common.{◌≡◌, ◌∙◌, sym, arith, eq-eqb, ne_eqb}
use Rattle.lists.proofs.Found.{found_at, found_past}
use Rattle.lists.proofs.Places.{scan_start, scan_hit, scan_miss, scan_end}
use Rattle.sender.specs.Internal.{place_with}
use Rattle.sender.proofs.places.place_of.Goals as goal

pub loop-i-init : goal.loop-i-init
unfolding place_with
loop-i-init c = scan_start _ _

pub returns-then-state-i-clause-place : goal.returns-then-state-i-clause-place
returns-then-state-i-clause-place c =
    let l = c.loop-i in
    let a = c.args in
    let here : place_with a.depot a.state.now a.count ≡ l.i = sym l.invariant ∙ scan_hit _ l.i _ c.loop-i-test.true (eq-eqb _ _ c.if-state-i.true) in
    rw here (sym (found_at a.count l.i c.loop-i-test.true))

pub loop-i-preserved : goal.loop-i-preserved
loop-i-preserved c = scan_miss _ c.loop-i.i _ c.loop-i-test.true (ne_eqb _ _ c.if-state-i.false) ∙ c.loop-i.invariant

pub returns-clause-place : goal.returns-clause-place
returns-clause-place c =
    let l = c.loop-i in
    let past = sym l.invariant ∙ scan_end _ l.i _ c.loop-i-test.false in
    sym (found_past c.args.count _ (omega (arith, past)))
