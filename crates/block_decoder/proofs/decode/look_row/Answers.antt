use Rattle.std.proofs.Common.{◌≡◌, sym, ap, ◌∙◌, false, inl, inr, ◌+◌, ◌<◌, arith}
use Rattle.lists.specs.Found.{found}
use Rattle.lists.proofs.Places.{scan_hit, scan_miss, scan_end}
use Rattle.lists.proofs.Found.{found_at, found_past}
use Rattle.tone_range.specs.Range.{bad_tone}
use Rattle.tone_range.proofs.Ranges.{good_tone, bad_tone_lem}
use Rattle.block_decoder.specs.Internal.{seen_to}
use Rattle.block_decoder.proofs.Seen.{put_symbol, put_none}
use Rattle.block_decoder.proofs.decode.look_row.Goals as goal
use Rattle.block_decoder.proofs.decode.look_row.Goals.{Joined-tone-limit, then-tone-limit, else-tone-limit+else-tone}

pub returns-then-tone-clause-place : goal.returns-then-tone-clause-place
returns-then-tone-clause-place c =
    let l = c.loop-t in
    let a = c.args in
    let here = bad_tone_lem a.limit _ c.if-tone-limit.false c.if-tone.true in
    let hit = sym l.invariant.0 ∙ scan_hit (bad_tone a.limit a.tones.now) l.t _ c.loop-t-test.true here in
    sym (ap (found (a.from + 16)) hit ∙ found_at (a.from + 16) l.t c.loop-t-test.true)

pub returns-then-tone-clause-symbols : goal.returns-then-tone-clause-symbols
returns-then-tone-clause-symbols c =
    let l = c.loop-t in
    let a = c.args in
    let here = bad_tone_lem a.limit _ c.if-tone-limit.false c.if-tone.true in
    let hit = sym l.invariant.0 ∙ scan_hit (bad_tone a.limit a.tones.now) l.t _ c.loop-t-test.true here in
    l.invariant.1 ∙ ap (seen_to a.tones.now) (sym hit)

-- a tone that is passed over is in range, and its symbol is put down
passed : (c : Joined-tone-limit) → let a = c.args in bad_tone a.limit a.tones.now c.loop-t.t ≡ false
passed c = good_tone _ _ (elim c.if-tone-limit.branch [ then-tone-limit w ↦ inl w.if-tone-limit.true | else-tone-limit+else-tone w ↦ inr w.if-tone.false ])

put : (c : Joined-tone-limit) → c.if-tone-limit.symbols ≡ seen_to c.args.tones.now (c.loop-t.t + 1)
put c =
    let l = c.loop-t in
    let a = c.args in
    let inside : l.t < 64 = omega (arith, c.requires.2, c.loop-t-test.true) in
    elim c.if-tone-limit.branch [
      | then-tone-limit w ↦ (rw w.from.ensures at w.symbols-is) ∙ put_symbol a.tones.now l.t l.symbols a.table.now inside l.invariant.1 (omega (arith, w.if-tone-limit.true, c.requires.0)) c.requires.1
      | else-tone-limit+else-tone w ↦ w.symbols-is ∙ put_none a.tones.now l.t l.symbols inside l.invariant.1 w.if-tone.false
    ]

pub loop-t-preserved : goal.loop-t-preserved
loop-t-preserved c =
    let l = c.loop-t in
    let joined = (goal.at.loop-t-preserved c).Joined-tone-limit in
    (scan_miss _ l.t _ c.loop-t-test.true (passed joined) ∙ l.invariant.0, put joined)

pub returns-clause-place : goal.returns-clause-place
returns-clause-place c =
    let l = c.loop-t in
    let a = c.args in
    let none = sym l.invariant.0 ∙ scan_end (bad_tone a.limit a.tones.now) l.t _ c.loop-t-test.false in
    sym (ap (found (a.from + 16)) none ∙ found_past (a.from + 16) l.t c.loop-t-test.false)

pub returns-clause-symbols : goal.returns-clause-symbols
returns-clause-symbols c =
    let l = c.loop-t in
    let a = c.args in
    let none = sym l.invariant.0 ∙ scan_end (bad_tone a.limit a.tones.now) l.t _ c.loop-t-test.false in
    l.invariant.1 ∙ ap (seen_to a.tones.now) (sym none)
