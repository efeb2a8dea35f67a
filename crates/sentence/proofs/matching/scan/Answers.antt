-- Before each turn the bytes passed are digits of the value.
use Rattle.std.proofs.Common.{refl, ◌∙◌, ap, ◌+◌, arith}
use Rattle.sentence.proofs.ScanCases.{told_follows, told_digit, scan_told, scans_none, scans_all, scans_stop, scans_more}
use Rattle.sentence.proofs.matching.scan.Goals as goal
use Rattle.sentence.proofs.matching.scan.Goals.{else-loop-c-test, then-loop-c-test+then-not-may_follow}

pub loop-c-init : goal.loop-c-init
loop-c-init c = (refl, omega arith, scans_none c.args.limit c.args.bytes.now)

pub overflow_sub-c : goal.overflow_sub-c
overflow_sub-c c = (told_digit _ _ _ _ c.may_follow.ensures c.if-not-may_follow.false).0

pub loop-c-preserved : goal.loop-c-preserved
loop-c-preserved c =
    let l = c.loop-c in
    let told = c.may_follow.ensures in
    let follows = c.if-not-may_follow.false in
    rw c.from.ensures (
      ap (λ n. n + 1) l.invariant.0,
      (told_follows _ _ _ _ told follows).fits,
      scans_more c.args.limit c.args.bytes.now l.c-index l.value c.loop-c-test.true l.invariant.2 (rw l.invariant.0 at told) follows,
    )

pub returns : goal.returns
returns c =
    let l = c.loop-c in
    let limit = c.args.limit in
    let bytes = c.args.bytes.now in
    c.then_some.ensures ∙ scan_told l.count l.value _ (rw l.invariant.0 (elim c.loop-c-test.branch [
      | else-loop-c-test w ↦ scans_all limit bytes l.c-index l.value w.loop-c-test.false (omega arith) l.invariant.2
      | then-loop-c-test+then-not-may_follow w ↦
          scans_stop limit bytes l.c-index l.value w.loop-c-test.true l.invariant.2 (rw l.invariant.0 at w.may_follow.ensures)
          w.if-not-may_follow.true
    ]))
