use Rattle.std.proofs.Common.{◌≡◌, ◌+◌, sym, refl, ◌∙◌, arith, length}
use Rattle.lists.proofs.Places.{scan_start, scan_hit, scan_miss, scan_end}
use Rattle.tone_range.specs.Range.{bad_tone, first_bad_tone}
use Rattle.tone_range.proofs.Looks.{looked_up_to, looked_at_all}
use Rattle.tone_range.proofs.check.Goals as goal

pub loop-t-init : goal.loop-t-init
unfolding first_bad_tone
loop-t-init c = (refl, scan_start _ _)

pub returns-then-is_bad_tone : goal.returns-then-is_bad_tone
returns-then-is_bad_tone c =
    let l = c.loop-t in
    let a = c.args in
    let inside = c.loop-t-test.true in
    let hit = sym l.invariant.1 ∙ scan_hit (bad_tone a.limit a.tones.now) l.t _ inside (sym c.is_bad_tone.ensures ∙ c.if-is_bad_tone.true) in
    looked_up_to a.limit a.tones.now l.t (l.looked + 1) inside hit (omega (arith, l.invariant.0))

pub loop-t-preserved : goal.loop-t-preserved
loop-t-preserved c =
    let l = c.loop-t in
    (omega (arith, l.invariant.0), scan_miss _ l.t _ c.loop-t-test.true (sym c.is_bad_tone.ensures ∙ c.if-is_bad_tone.false) ∙ l.invariant.1)

pub returns : goal.returns
returns c =
    let l = c.loop-t in
    let a = c.args in
    let all : l.t ≡ length a.tones.now = omega arith in
    looked_at_all a.limit a.tones.now l.looked (sym l.invariant.1 ∙ scan_end _ l.t _ c.loop-t-test.false ∙ all) (l.invariant.0 ∙ all)
