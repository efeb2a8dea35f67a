-- The refusals in their order, and then the text.
use Rattle.std.proofs.Common.{◌∙◌, ap, arith, Err}
use Rattle.refusal.specs.declared.Reason.{Reason}
use Rattle.refusal.specs.Refused.{refused_at}
use Rattle.sentence.proofs.Fillings.{filled_sum}
use Rattle.sentence.proofs.Sizes.{filled_short}
use Rattle.sentence.proofs.WriteCases.{Writes, place_above, lead_above, no_room, room}
use Rattle.sentence.proofs.writing.write.Goals as goal
use Rattle.sentence.proofs.writing.write.Goals.{After-at, then-place-via-then-place, then-place-via-else-place+then-most_lead-lead}

not_shown : (c : After-at) → Writes c.args.pattern.now c.args.place c.args.lead c.args.out.now (Err (refused_at Reason.Sentence 0)) c.args.out.now
not_shown c = let a = c.args in elim c.then-place.branch [
  | then-place-via-then-place w ↦ place_above a.pattern.now a.place a.lead a.out.now w.if-place.true
  | then-place-via-else-place+then-most_lead-lead w ↦
      lead_above a.pattern.now a.place a.lead a.out.now (omega (arith, w.most_lead.ensures, w.if-most_lead-lead.true))
]

pub returns-then-place : goal.returns-then-place
returns-then-place c = let w = not_shown c in record { answer = ap Err c.at.ensures ∙ w.0; output = w.1 }

pub filled_length-requires : goal.filled_length-requires
filled_length-requires c =
    let a = c.args in
    let short = filled_short a.place a.lead (omega arith) (omega arith) a.pattern.now in
    omega (arith, filled_sum a.place a.lead a.pattern.now, short, c.requires.short)

pub returns-then-out-filled_length : goal.returns-then-out-filled_length
returns-then-out-filled_length c =
    let a = c.args in
    let w = no_room a.pattern.now a.place a.lead a.out.now c.requires.some (omega arith) (omega (arith, c.most_lead.ensures))
    (omega (arith, c.filled_length.ensures, filled_sum a.place a.lead a.pattern.now)) in
    record { answer = ap Err c.at-then-out-filled_length.ensures ∙ w.0; output = w.1 }

pub put_filled-requires : goal.put_filled-requires
put_filled-requires c = omega (arith, c.filled_length.ensures, filled_sum c.args.place c.args.lead c.args.pattern.now)

pub returns : goal.returns
returns c =
    let a = c.args in
    let put = c.put_filled in
    let w = room a.pattern.now a.place a.lead a.out.now c.requires.some (omega arith) (omega (arith, c.most_lead.ensures))
    (omega (arith, c.filled_length.ensures, filled_sum a.place a.lead a.pattern.now)) put.result _ put.ensures.answer put.ensures.output in
    record { answer = w.0; output = w.1 }
