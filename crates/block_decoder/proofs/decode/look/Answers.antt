use Rattle.std.proofs.Common.{◌≡◌, sym, ap, ◌∙◌, ◌+◌, ◌-◌, ◌*◌, length, arith}
use Rattle.lists.specs.Places.{scan}
use Rattle.lists.specs.Found.{found}
use Rattle.lists.proofs.Places.{scan_most, scan_within, scan_beyond, scan_end}
use Rattle.lists.proofs.Found.{found_at, found_past, found_some, found_none}
use Rattle.tone_range.specs.Range.{bad_tone, first_bad_tone}
use Rattle.block_decoder.specs.Internal.{seen_to}
use Rattle.block_decoder.proofs.decode.look.Goals as goal

pub loop-row-init : goal.loop-row-init
unfolding first_bad_tone
loop-row-init c =
    let whole : 64 ≡ length c.args.tones.now = omega arith in
    (ap (scan (bad_tone c.args.limit c.args.tones.now) 0) whole, c.requires.1)

pub returns-in-Some-clause-place : goal.returns-in-Some-clause-place
returns-in-Some-clause-place c =
    let a = c.args in
    let from = 16 * c.loop-row.row in
    let known = found_some _ _ _ (sym c.look_row.ensures.place ∙ c.in-Some.is) in
    let first = sym c.loop-row.invariant.0 ∙ scan_within (bad_tone a.limit a.tones.now) from 16 (64 - from) (omega (arith, c.loop-row-test.true)) known.1 in
    sym (ap (found 64) (first ∙ sym known.0) ∙ found_at 64 c.in-Some.bad (omega (arith, known.0, known.1, c.loop-row-test.true)))

pub returns-in-Some-clause-symbols : goal.returns-in-Some-clause-symbols
returns-in-Some-clause-symbols c =
    let a = c.args in
    let from = 16 * c.loop-row.row in
    let known = found_some _ _ _ (sym c.look_row.ensures.place ∙ c.in-Some.is) in
    let first = sym c.loop-row.invariant.0 ∙ scan_within (bad_tone a.limit a.tones.now) from 16 (64 - from) (omega (arith, c.loop-row-test.true)) known.1 in
    c.look_row.ensures.symbols ∙ ap (seen_to a.tones.now) (sym first)

pub loop-row-preserved : goal.loop-row-preserved
loop-row-preserved c =
    let a = c.args in
    let from = 16 * c.loop-row.row in
    let none = found_none _ _ (sym c.look_row.ensures.place ∙ c.in_default.is) in
    let left : 64 - 16 * (c.loop-row.row + 1) ≡ 64 - from - 16 = omega arith in
    let on : 16 * (c.loop-row.row + 1) ≡ from + 16 = omega arith in
    let past : scan (bad_tone a.limit a.tones.now) from 16 ≡ from + 16 = omega (arith, none, scan_most (bad_tone a.limit a.tones.now) from 16) in (
      rw (left, on) (scan_beyond (bad_tone a.limit a.tones.now) from 16 (64 - from) (omega (arith, c.loop-row-test.true)) none ∙ c.loop-row.invariant.0),
      rw on (c.look_row.ensures.symbols ∙ ap (seen_to a.tones.now) past),
    )

pub returns-clause-place : goal.returns-clause-place
returns-clause-place c =
    let l = c.loop-row in
    let end : 16 * l.row ≡ 64 = omega arith in
    let none = sym l.invariant.0 ∙ scan_end _ (16 * l.row) 64 (omega arith) in
    sym (ap (found 64) none ∙ found_past 64 _ (omega arith))

pub returns-clause-symbols : goal.returns-clause-symbols
returns-clause-symbols c =
    let l = c.loop-row in
    let end : 16 * l.row ≡ 64 = omega arith in
    let none = sym l.invariant.0 ∙ scan_end _ (16 * l.row) 64 (omega arith) in
    l.invariant.1 ∙ ap (seen_to c.args.tones.now) (sym none)
