use mathlib.Core.Path.{◌≡◌}
use Prim.Native.Nat.{ℕ}
use native.Mathlib.Omega.{arith}
use mir.Syntax.{w32}
use mir.Val.{to_z, of_z}
use Rattle.lists.specs.Lists.{at}
use Rattle.walsh.proofs.Locals.{reads}
use Rattle.lead_finder.proofs.KeyOrder.{second_below, keys_decide}
use Rattle.lead_finder.proofs.keys.find.Goals as goal
use Rattle.lead_finder.proofs.keys.find.Goals.{Start, After-keys-keys, After-largest-first, After-word_of-word, After-largest-second, After-word_of-next}

-- a correlation as a local holds it
read : (c : Start) (k : ℕ) → to_z w32 (of_z w32 (at c.args.correlations k)) ≡ at c.args.correlations k
read c k = reads (at c.args.correlations k) (omega (arith, c.requires.within k))

pub overflow_sub-lead : goal.overflow_sub-lead
overflow_sub-lead c =
    let at_place = goal.at.overflow_sub-lead c in
    let first = at_place.After-largest-first in
    let second = at_place.After-largest-second in
    second_below (at at_place.Start.args.correlations) _ at_place.After-keys-keys.keys-keys.ensures _ _ first.largest-first.ensures at_place.After-word_of-word.word_of-word.ensures
    _ _ second.largest-second.ensures c.word_of-next.ensures

pub returns : goal.returns
returns c =
    let at_place = goal.at.returns c in
    let s = at_place.Start in
    let w = at_place.After-word_of-word in
    let v = at_place.After-word_of-next in
    rw c.from.ensures
    (keys_decide (at s.args.correlations) _ at_place.After-keys-keys.keys-keys.ensures _ _ at_place.After-largest-first.largest-first.ensures w.word_of-word.ensures
    _ _ at_place.After-largest-second.largest-second.ensures v.word_of-next.ensures
    c.code_of.result _ _ c.code_of.ensures (read s w.word_of-word.result) (read s v.word_of-next.result))
