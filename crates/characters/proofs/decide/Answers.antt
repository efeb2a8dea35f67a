use mathlib.Core.Path.{◌≡◌, sym, ◌∙◌}
use mathlib.Core.Bool.{true}
use Prim.Native.Nat.{◌<◌, ◌≤◌}
use native.Mathlib.Omega.{arith}
use borrow.Author.Tests.{lt-ltb, le-ltb}
use Rattle.lists.specs.Lists.{over}
use Rattle.lists.proofs.Fronts.{over_start, over_set}
use Rattle.lists.proofs.Places.{scan_start, scan_hit, scan_miss, scan_end}
use Rattle.refusal.specs.Checks.{is_mode}
use Rattle.refusal.proofs.Limits.{mode_range}
use Rattle.decision.specs.Decision.{none}
use Rattle.decision.proofs.Choice.{counts_decide}
use Rattle.characters.specs.Symbols.{symbol_count, symbol_character, symbol_characters}
use Rattle.characters.proofs.Reached.{stops_at, goes_on}
use Rattle.characters.proofs.TableSigns.{table_count}
use Rattle.characters.proofs.decide.Goals as goal
use Rattle.characters.proofs.decide.Goals.{Else-not-is_mode, After-decide-character}

pub returns-then-not-is_mode : goal.returns-then-not-is_mode
unfolding symbol_characters over
returns-then-not-is_mode c = rw (sym c.is_mode.ensures ∙ c.if-not-is_mode.true)

mode_known : (c : Else-not-is_mode) → is_mode c.args.mode ≡ true
mode_known c = sym c.is_mode.ensures ∙ c.if-not-is_mode.false

pub loop-q-init : goal.loop-q-init
loop-q-init c = ((mode_range _ (mode_known (goal.at.loop-q-init c).Else-not-is_mode)).1, over_start _ _, scan_start _ _)

-- the decision is that on character q, and stands at its place
here : (d : After-decide-character) → let l = d.before.before.before.before in let a = l.args in d.decide-character.result ≡ symbol_character a.values.now a.symbols.now a.weights.now l.loop-q.q
unfolding symbol_character
here d =
    let i = d.before.before.before in
    let l = i.before in
    let a = l.args in
    d.decide-character.ensures
    ∙ counts_decide _ (symbol_count a.values.now a.symbols.now a.weights.now l.loop-q.q)
    (table_count l.loop-q.q _ a.values.now a.symbols.now a.weights.now _ l.keys-keys.ensures (omega (arith, i.loop-q-test.true, l.loop-q.invariant.0)) d.signs-signs.ensures)

pub returns-then-character-least_lead : goal.returns-then-character-least_lead
unfolding symbol_characters
returns-then-character-least_lead c =
    let d = c.before.before in
    let i = d.before.before.before in
    let l = i.before in
    let e = l.before.before in
    let a = e.args in
    let more : l.loop-q.q < a.mode = i.loop-q-test.true in
    let high : a.mode ≤ 8 = l.loop-q.invariant.0 in
    let unclear = lt-ltb d.decide-character.result.lead a.least_lead c.if-character-least_lead.true in
    let at-q = sym l.loop-q.invariant.2 ∙ scan_hit _ l.loop-q.q _ more (rw (here (goal.at.returns-then-character-least_lead c).After-decide-character) at unclear) in
    rw (mode_known (goal.at.returns-then-character-least_lead c).Else-not-is_mode, stops_at a.mode a.least_lead (symbol_character a.values.now a.symbols.now a.weights.now) l.loop-q.q more at-q) (over_set none _ l.loop-q.q _ _ _ (omega arith) l.loop-q.invariant.1 (here (goal.at.returns-then-character-least_lead c).After-decide-character))

pub loop-q-preserved : goal.loop-q-preserved
loop-q-preserved c =
    let d = c.before.before in
    let i = d.before.before.before in
    let l = i.before in
    let a = l.args in
    let more : l.loop-q.q < a.mode = i.loop-q-test.true in
    let high : a.mode ≤ 8 = l.loop-q.invariant.0 in
    let clear = le-ltb d.decide-character.result.lead a.least_lead c.if-character-least_lead.false in (
      high,
      over_set none _ l.loop-q.q _ _ _ (omega arith) l.loop-q.invariant.1 (here (goal.at.loop-q-preserved c).After-decide-character),
      scan_miss _ l.loop-q.q _ more (rw (here (goal.at.loop-q-preserved c).After-decide-character) at clear) ∙ l.loop-q.invariant.2,
    )

pub returns : goal.returns
unfolding symbol_characters
returns c =
    let l = c.before in
    let e = l.before.before in
    let a = e.args in
    let done : l.loop-q.q ≡ a.mode = omega arith in
    let at_end = sym l.loop-q.invariant.2 ∙ scan_end _ l.loop-q.q _ c.loop-q-test.false ∙ done in
    rw (mode_known (goal.at.returns c).Else-not-is_mode, goes_on a.mode a.least_lead (symbol_character a.values.now a.symbols.now a.weights.now) at_end) (rw done at l.loop-q.invariant.1)
