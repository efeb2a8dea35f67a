use mathlib.Core.Path.{◌≡◌, refl, sym, ◌∙◌, ap}
use Prim.Native.Nat.{ℕ, ◌^◌}
use lib.Pow.{pow_mono}
use native.Mathlib.Omega.{arith}
use lib.ListN.{length-set}
use borrow.Author.Tests.{lt-ltb, le-ltb}
use Rattle.lists.proofs.Fronts.{over_start, over_set}
use Rattle.lists.proofs.Places.{scan_start, scan_hit, scan_miss, scan_end}
use Rattle.refusal.proofs.Limits.{mode_range, mode_tones}
use Rattle.chain.proofs.Values.{mode_values}
use Rattle.block_decoder.specs.Decoding.{characters_of, lead_in, padded, heard_into}
use Rattle.block_decoder.specs.Internal.{first_unclear_in}
use Rattle.checked_block.specs.Checked.{tones_below}
use Rattle.checked_block.specs.Internal.{weights_below}
use Rattle.checked_block.proofs.CheckedCounts.{symbols_none, same_found}
use Rattle.checked_block.proofs.Decisions.{unclear_told, clear_told, text_put}
use Rattle.std.proofs.Common.{Err}
use Rattle.checked_block.proofs.decide.Goals as goal
use Rattle.checked_block.proofs.decide.Goals.{After-decide-characters}

pub put_symbols-requires : goal.put_symbols-requires
put_symbols-requires c = symbols_none _

-- the decisions are those on the tones of the mode
found : (d : After-decide-characters) → let a = d.args in d.decide-characters.result ≡ padded (characters_of a.mode (tones_below (2 ^ a.mode) a.tones.now))
found d =
    let a = d.args in
    let mode = d.requires.0 in
    same_found (2 ^ a.mode) a.tones.now (omega (arith, pow_mono {i = a.mode} {j = 8} (mode_range a.mode mode).1)) (omega arith) a.mode mode _ (d.values-values.ensures ∙ mode_values a.mode mode) _ _ _
    d.put_symbols.ensures
    (d.weights-weights.ensures ∙ ap (λ (limit : ℕ). weights_below limit a.tones.now) (d.tone_count.ensures ∙ mode_tones a.mode mode))
    d.decide-characters.ensures

pub loop-q-init : goal.loop-q-init
unfolding first_unclear_in
loop-q-init c = scan_start _ _

pub returns-then-character-least_lead : goal.returns-then-character-least_lead
unfolding heard_into
returns-then-character-least_lead c =
    let a = c.args in
    let inside = c.loop-q-test.true in
    let here = sym c.loop-q.invariant ∙ scan_hit _ c.loop-q.q _ inside (lt-ltb (lead_in c.decide-characters.result c.loop-q.q) a.least_lead c.if-character-least_lead.true) in record { answer = ap Err c.unclear.ensures ∙ sym (unclear_told a.mode a.least_lead _ c.decide-characters.result (found (goal.at.returns-then-character-least_lead c).After-decide-characters) c.loop-q.q inside here); output = refl }

pub loop-q-preserved : goal.loop-q-preserved
loop-q-preserved c =
    scan_miss _ c.loop-q.q _ c.loop-q-test.true (le-ltb _ _ c.if-character-least_lead.false) ∙ c.loop-q.invariant

pub loop-q-2-init : goal.loop-q-2-init
loop-q-2-init c = (refl, over_start _ _)

pub bounds-codes-q : goal.bounds-codes-q
bounds-codes-q c = omega (arith, c.loop-q-2-test.true, c.loop-q-2.invariant.0, c.requires.1)

pub loop-q-2-preserved : goal.loop-q-2-preserved
loop-q-2-preserved c =
    let l = c.loop-q-2 in
    (simp length-set l.invariant.0, over_set 0 _ l.q _ _ _ (omega (arith, c.loop-q-2-test.true, l.invariant.0, c.requires.1)) l.invariant.1 refl)

pub returns : goal.returns
returns c =
    let a = c.args in
    let place = (goal.at.returns c).After-decide-characters in
    let done : c.loop-q-2.q ≡ a.mode = omega arith in
    let clear : first_unclear_in a.mode a.least_lead c.decide-characters.result ≡ a.mode = sym c.loop-q.invariant ∙ scan_end _ c.loop-q.q _ c.loop-q-test.false ∙ omega arith in
    record {
      answer = sym (clear_told a.mode a.least_lead _ c.decide-characters.result (found place) clear);
      output = text_put a.mode a.least_lead _ c.decide-characters.result (found place) a.codes.now c.loop-q-2.codes (rw done at c.loop-q-2.invariant.1);
    }
