-- The last line's text stands at the front and leaves room for another: the part that the text after it has, where that is put whole.
use mathlib.Core.Path.{sym, ap, ◌∙◌}
use mathlib.Core.List.{List, ◌++◌}
use Prim.Native.Nat.{ℕ, ◌+◌, ◌-◌, ◌≤◌}
use native.Mathlib.Omega.{arith}
use lib.ListN.{length, take, drop, length-take, length-drop}
use lib.Seq.{length-take-le, length_front}
use Rattle.text.proofs.Puts.{Put, put_as}
use Rattle.report.proofs.Puts.{put_roomy}
use Rattle.stages.specs.declared.Progress.{Progress}
use Rattle.stages.specs.Stages.{stopped}
use Rattle.listing.specs.Steps.{last_line, and_then, ended}
use Rattle.listing.proofs.LastLine.{end_said}
use Rattle.listing.proofs.Parts.{put_front, put_part, put_within_part}
use Rattle.listing.proofs.Pieces.{said_within}
use Rattle.listing.proofs.finish.Goals as goal
use Rattle.listing.proofs.finish.Goals.{After-last_line-last, After-finish-ending}

pub slice_bounds-last_line-end-2 : goal.slice_bounds-last_line-end-2
slice_bounds-last_line-end-2 c = sym (length-take-le 1024 c.args.out.now (omega (arith, c.requires)))

pub last_line-last-requires : goal.last_line-last-requires
last_line-last-requires c = omega (arith, c.requires, length-take-le 1024 c.args.out.now (omega (arith, c.requires)))

module _ (c : After-last_line-last) where
  last_short : c.last_line-last.result.written ≤ 1024
  last_short =
      let last = c.last_line-last in
      said_within (last_line c.args.listing c.args.tones.now) 1024 c.args.out.now last.ensures.answer last.ensures.output last.auto.out

  last_room : c.last_line-last.result.written + 1024 ≤ length (c.last_line-last.new.out ++ drop 1024 c.args.out.now)
  last_room =
      let last = c.last_line-last in
      omega (arith, c.requires, last_short, length_front c.args.out.now last.new.out 1024 last.auto.out)

pub overflow_add-end : goal.overflow_add-end
overflow_add-end c = let last = (goal.at.overflow_add-end c).After-last_line-last in omega (arith, last_short last)

pub slice_bounds-finish-end : goal.slice_bounds-finish-end
slice_bounds-finish-end c = let last = (goal.at.slice_bounds-finish-end c).After-last_line-last in last_room last

module _ (c : After-finish-ending) (h : c.last_line-last.result.written + 1024 ≤ length (c.last_line-last.new.out ++ drop 1024 c.args.out.now)) where
  abbrev size : ℕ
  size = c.last_line-last.result.written + 1024 - c.last_line-last.result.written

  abbrev rest : List ℕ
  rest = drop c.last_line-last.result.written (c.last_line-last.new.out ++ drop 1024 c.args.out.now)

  ending : Put (end_said c.last_line-last.result.listing) (take size rest) c.finish-ending.result c.finish-ending.new.out
  ending =
      let told = c.finish-ending.ensures in
      let front = c.last_line-last.new.out ++ drop 1024 c.args.out.now in
      put_roomy _ _ (omega (arith, h, length-take size rest, length-drop c.last_line-last.result.written front)) (told.answer, told.output)

pub overflow_add-last : goal.overflow_add-last
overflow_add-last c =
    let at = goal.at.overflow_add-last c in
    let room = last_room at.After-last_line-last in
    let put = at.After-finish-ending in
    omega (arith, room, last_short at.After-last_line-last, put_within_part _ (rest put room) (size put room) (ending put room) c.finish-ending.auto.out)

pub returns : goal.returns
unfolding ended and_then
returns c =
    let at = goal.at.returns c in
    let room = last_room at.After-last_line-last in
    let put = at.After-finish-ending in
    let last = c.last_line-last in
    let front = put_front _ _ 1024 (ap (λ (x : Progress). x.written) last.ensures.answer, last.ensures.output) last.auto.out in
    let said = last_line c.args.listing c.args.tones.now in
    let texts = ap (λ (x : Progress). said.text ++ end_said x.listing) (sym last.ensures.answer) in
    let all = put_as c.args.out.now texts (put_part _ _ _ front _ (size put room) (ending put room) c.finish-ending.auto.out) in
    let told = c.stopped.ensures ∙ ap (λ (n : ℕ). record { listing = stopped; written = n }) all.0 in
    record { answer = told; kept = last.ensures.kept; output = all.1 }
