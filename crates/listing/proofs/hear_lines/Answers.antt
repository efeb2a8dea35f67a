use Rattle.std.proofs.Common.{◌≡◌, ◌+◌, ◌-◌, ◌≤◌, ℕ, List, length, take, drop, length-take}
use native.Mathlib.Omega.{arith}
use lib.ListN.{length-drop}
use Rattle.lists.specs.Lists.{over}
use Rattle.stages.proofs.Tellings.{tells_whole}
use Rattle.stages.specs.Stages.{Said, told}
use Rattle.judge.specs.Judged.{closed}
use Rattle.listing.proofs.Pieces.{said_within, place_after, hears_begun, hears_line, tells_all, tells_within}
use Rattle.listing.proofs.hear_lines.Goals as goal
use Rattle.listing.proofs.hear_lines.Goals.{After-close-said}

pub loop-from-init : goal.loop-from-init
loop-from-init c = (omega arith, hears_begun _ _ _ _ (omega arith))

pub returns-then-bytes-at : goal.returns-then-bytes-at
returns-then-bytes-at c =
    let l = c.loop-from in
    let read = c.read_from-at.ensures in
    let all = tells_within _ _ _ _ _ _ _ _ _ l.invariant.1 read.answer read.kept c.if-bytes-at.true in
    record { answer = all.0; kept = all.1.0; output = all.1.1 }

pub overflow_add-end : goal.overflow_add-end
overflow_add-end c = let l = c.loop-from in omega (arith, c.requires, l.invariant.0, l.invariant.1.paid)

pub slice_bounds-close-end : goal.slice_bounds-close-end
slice_bounds-close-end c = let l = c.loop-from in omega (arith, c.requires, l.auto.out, l.invariant.0, l.invariant.1.paid)

-- the line's text is put whole into its part of the output
module _ (c : After-close-said) where
  abbrev line : Said
  line = closed c.read_from-at.result.listing c.read_from-at.new.tones

  abbrev size : ℕ
  size = c.loop-from.written + 1024 - c.loop-from.written

  abbrev rest : List ℕ
  rest = drop c.loop-from.written c.loop-from.out

  closes : (c.close-said.result ≡ told line) × (c.close-said.new.out ≡ over line.text (take size rest))
  closes =
      let l = c.loop-from in
      let room : 1024 ≤ length (take size rest) =
      omega (arith, c.requires, l.auto.out, l.invariant.0, l.invariant.1.paid, length-take size rest, length-drop l.written l.out) in
      tells_whole (take size rest) line room (c.close-said.ensures.answer, c.close-said.ensures.output)

pub overflow_add-written : goal.overflow_add-written
overflow_add-written c =
    let l = c.loop-from in
    let put = (goal.at.overflow_add-written c).After-close-said in
    let told = closes put in
    omega (arith, c.requires, l.invariant.0, l.invariant.1.paid, said_within (line put) (size put) (rest put) told.0 told.1 c.close-said.auto.out)

pub loop-from-smaller : goal.loop-from-smaller
loop-from-smaller c = omega (arith, place_after _ _ _ c.read_from-at.ensures.answer)

pub loop-from-preserved : goal.loop-from-preserved
loop-from-preserved c =
    let l = c.loop-from in
    let read = c.read_from-at.ensures in
    let put = (goal.at.loop-from-preserved c).After-close-said in
    let told = closes put in
    let kept = c.close-said.ensures.kept in (
      omega arith,
      hears_line _ _ _ _ _ _ _ _ _ l.invariant.1 read.answer read.kept (size put) (omega arith) (omega arith) told.0 kept told.1 c.close-said.auto.out,
    )

pub returns : goal.returns
returns c =
    let all = tells_all _ _ _ _ _ _ _ _ _ c.loop-from.invariant.1 (omega arith) in
    record { answer = all.0; kept = all.1.0; output = all.1.1 }
