use mathlib.Core.Path.{◌≡◌, sym, ◌∙◌}
use mathlib.Core.Bool.{true}
use native.Mathlib.Omega.{arith}
use Rattle.lists.specs.Lists.{over}
use Rattle.lists.proofs.Fronts.{over_start, over_set}
use Rattle.refusal.specs.Checks.{is_mode}
use Rattle.refusal.proofs.Limits.{mode_range}
use Rattle.walsh.proofs.Energies.{counts_energy}
use Rattle.characters.specs.Symbols.{symbol_count, symbol_energy, symbol_energies}
use Rattle.characters.proofs.TableSigns.{table_count}
use Rattle.characters.proofs.energies.Goals as goal
use Rattle.characters.proofs.energies.Goals.{Else-not-is_mode}

pub returns-then-not-is_mode : goal.returns-then-not-is_mode
unfolding symbol_energies over
returns-then-not-is_mode c = rw (sym c.is_mode.ensures ∙ c.if-not-is_mode.true)

mode_known : (c : Else-not-is_mode) → is_mode c.args.mode ≡ true
mode_known c = sym c.is_mode.ensures ∙ c.if-not-is_mode.false

pub loop-q-init : goal.loop-q-init
loop-q-init c = ((mode_range _ (mode_known (goal.at.loop-q-init c).Else-not-is_mode)).1, over_start _ _)

pub loop-q-preserved : goal.loop-q-preserved
unfolding symbol_energy
loop-q-preserved c =
    let i = c.before.before.before in
    let l = i.before in
    let a = l.args in
    let here =
    c.energy.ensures
    ∙ counts_energy _ (symbol_count a.values.now a.symbols.now a.weights.now l.loop-q.q)
    (table_count l.loop-q.q _ a.values.now a.symbols.now a.weights.now _ l.keys-keys.ensures (omega (arith, i.loop-q-test.true, l.loop-q.invariant.0)) c.signs.ensures) in
    (l.loop-q.invariant.0, over_set 0 _ l.loop-q.q _ _ _ (omega (arith, l.loop-q.invariant.0)) l.loop-q.invariant.1 here)

pub returns : goal.returns
unfolding symbol_energies
returns c =
    let l = c.before in
    let done : l.loop-q.q ≡ l.args.mode = omega arith in
    rw (mode_known (goal.at.returns c).Else-not-is_mode) (rw done at l.loop-q.invariant.1)
