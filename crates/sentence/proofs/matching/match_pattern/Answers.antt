-- Before each turn the bytes of the pattern that are passed took the bytes that are passed.
use Rattle.std.proofs.Common.{◌≡◌, refl, sym, ◌∙◌, ◌+◌, cond, eqb, get_or, arith}
use Rattle.sentence.specs.Patterns.{place_mark, lead_mark}
use Rattle.sentence.proofs.MatchCases.{Passed, told_piece, told_none, marked, unmarked, elsewhere, match_whole, match_part, match_stops, match_more}
use Rattle.sentence.proofs.matching.match_pattern.Goals as goal
use Rattle.sentence.proofs.matching.match_pattern.Goals.{Joined-p, in-35, in-37, in_default-p}

pub returns-in_default : goal.returns-in_default
returns-in_default c =
    let l = c.loop-p in
    match_stops c.args.pattern.now c.args.bytes.now l.p-index l.at l.place l.lead l.invariant c.loop-p-test.true _ refl
    (told_none _ (sym c.in_default.is ∙ c.take_piece.ensures))

-- the place and the lead with what this byte of the pattern told
now_place : (c : Joined-p) → c.match-p.place ≡ cond (eqb (get_or c.args.pattern.now c.loop-p.p-index 0) place_mark) c.in-Some.value c.loop-p.place
now_place c = elim c.match-p.branch [
  | in-35 w ↦ w.place-is ∙ marked _ place_mark _ _ w.in-35.is
  | in-37 w ↦ w.place-is ∙ elsewhere _ place_mark lead_mark _ _ w.in-37.is refl
  | in_default-p w ↦ w.place-is ∙ unmarked (get_or c.args.pattern.now c.loop-p.p-index 0) place_mark _ _ (omega arith)
]

now_lead : (c : Joined-p) → c.match-p.lead ≡ cond (eqb (get_or c.args.pattern.now c.loop-p.p-index 0) lead_mark) c.in-Some.value c.loop-p.lead
now_lead c = elim c.match-p.branch [
  | in-35 w ↦ w.lead-is ∙ elsewhere _ lead_mark place_mark _ _ w.in-35.is refl
  | in-37 w ↦ w.lead-is ∙ marked _ lead_mark _ _ w.in-37.is
  | in_default-p w ↦ w.lead-is ∙ unmarked (get_or c.args.pattern.now c.loop-p.p-index 0) lead_mark _ _ (omega arith)
]

-- the bytes of the pattern that are passed with this one
more : (c : Joined-p) → let l = c.loop-p in
    Passed c.args.pattern.now c.args.bytes.now (l.p-index + 1) (l.at + c.in-Some.count) c.match-p.place c.match-p.lead
more c =
    let l = c.loop-p in
    let taken = told_piece _ c.in-Some.count c.in-Some.value (sym c.in-Some.is ∙ c.take_piece.ensures) in
    rw (now_place c, now_lead c)
    (match_more c.args.pattern.now c.args.bytes.now l.p-index l.at l.place l.lead l.invariant c.loop-p-test.true _ taken.0 taken.1)

pub overflow_add-at : goal.overflow_add-at
overflow_add-at c = omega (arith, (more c).inside)

pub loop-p-preserved : goal.loop-p-preserved
loop-p-preserved c = more c

pub returns-then-at-bytes : goal.returns-then-at-bytes
returns-then-at-bytes c =
    let l = c.loop-p in
    match_whole c.args.pattern.now c.args.bytes.now l.p-index l.at l.place l.lead l.invariant (omega arith) c.if-at-bytes.true

pub returns-else-at-bytes : goal.returns-else-at-bytes
returns-else-at-bytes c =
    let l = c.loop-p in
    match_part c.args.pattern.now c.args.bytes.now l.p-index l.at l.place l.lead l.invariant (omega arith) c.if-at-bytes.false
