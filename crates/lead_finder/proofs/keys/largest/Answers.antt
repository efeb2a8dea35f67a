use Rattle.std.proofs.Common.{◌∙◌, refl, arith}
use native.Mathlib.Numerals.{add-one}
use Rattle.lead_finder.proofs.KeyOrder.{largest_more, largest_all}
use Rattle.lead_finder.proofs.keys.largest.Goals as goal
use Rattle.lead_finder.proofs.keys.largest.Goals.{then-most-keys, else-most-keys}

pub loop-word-init : goal.loop-word-init
loop-word-init c = refl

pub loop-word-preserved : goal.loop-word-preserved
loop-word-preserved c =
    let l = c.loop-word in
    let more = largest_more 0 c.args.keys.now l.word (omega arith) in
    rw add-one (elim c.if-most-keys.branch [
      | then-most-keys w ↦ omega (arith, l.invariant, w.if-most-keys.true, w.most-is, more)
      | else-most-keys w ↦ omega (arith, l.invariant, w.if-most-keys.false, w.most-is, more)
    ])

pub returns : goal.returns
returns c = c.loop-word.invariant ∙ largest_all c.args.keys.now c.loop-word.word (omega arith)
