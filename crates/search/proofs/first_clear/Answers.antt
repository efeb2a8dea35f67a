use mathlib.Core.Path.{◌≡◌, sym, ◌∙◌, ap}
use Prim.Native.Nat.{ℕ}
use native.Mathlib.Omega.{arith}
use lib.ListN.{length, replicate}
use Rattle.lists.specs.Lists.{tab, num, over}
use Rattle.lists.specs.Found.{found}
use Rattle.lists.proofs.Found.{found_at, found_past}
use Rattle.lists.proofs.Places.{scan_start, scan_hit, scan_miss, scan_end}
use Rattle.refusal.proofs.Limits.{mode_tones}
use Rattle.chain.proofs.Values.{mode_values}
use Rattle.checked_block.specs.Checked.{weight_below}
use Rattle.search.specs.Starts.{starts, accepted_at}
use Rattle.search.proofs.Clears.{clear_there}
use Rattle.search.proofs.first_clear.Goals as goal
use Rattle.search.proofs.first_clear.Goals.{After-is_clear}

pub loop-start-init : goal.loop-start-init
loop-start-init c = scan_start _ _

pub is_clear-requires : goal.is_clear-requires
is_clear-requires c = c.requires.settings

-- the test is whether the 64 tones from the start on are accepted
there : (c : After-is_clear) → let a = c.args in c.is_clear.result ≡ accepted_at a.mode a.least_lead a.run.now c.loop-start.start
there c =
    let a = c.args in
    let mode = c.requires.settings.mode in
    let limit = c.tone_count.ensures ∙ mode_tones a.mode mode in
    c.is_clear.ensures
    ∙ clear_there a.mode a.least_lead c.requires.settings _ (c.values-values.ensures ∙ mode_values a.mode mode) a.run.now _ _ (replicate 4096 0) (replicate 4096 0) _ _ c.loop-start.start
    (omega (arith, c.loop-start-test.true, c.requires.count.0))
    c.put_symbols.ensures
    (c.put_weights.ensures ∙ ap (λ (n : ℕ). over (tab (λ t. weight_below n (num a.run.now t)) (length a.run.now)) (replicate 4096 0)) limit)
    c.window-heard.ensures
    c.window-counting.ensures

pub returns-then-is_clear : goal.returns-then-is_clear
returns-then-is_clear c =
    let s = c.loop-start in
    let hit = sym s.invariant ∙ scan_hit _ s.start _ c.loop-start-test.true (sym (there (goal.at.returns-then-is_clear c).After-is_clear) ∙ c.if-is_clear.true) in
    sym (ap (found (starts c.args.run.now)) hit ∙ found_at _ s.start c.loop-start-test.true)

pub loop-start-preserved : goal.loop-start-preserved
loop-start-preserved c =
    scan_miss _ c.loop-start.start _ c.loop-start-test.true (sym (there (goal.at.loop-start-preserved c).After-is_clear) ∙ c.if-is_clear.false) ∙ c.loop-start.invariant

pub returns : goal.returns
returns c =
    let s = c.loop-start in
    let none = sym s.invariant ∙ scan_end _ s.start _ c.loop-start-test.false in
    sym (ap (found (starts c.args.run.now)) none ∙ found_past _ s.start c.loop-start-test.false)
