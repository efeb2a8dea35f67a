use Rattle.std.proofs.Common.{◌≡◌, refl, ◌∙◌, sym, ◌%◌, ◌<◌, arith}
use Rattle.lists.specs.Lists.{num}
use Rattle.lists.proofs.Found.{found_some, found_none}
use Rattle.sender.specs.Queues.{ahead}
use Rattle.sender.specs.State.{counts_in}
use Rattle.sender.proofs.Cases.{ahead_some}
use Rattle.sender.proofs.SendingOut.{short_sent, none_sent, block_sent}
use Rattle.sender.proofs.lent.send.Goals as goal
use Rattle.sender.proofs.lent.send.Goals.{In-Some-ahead}

pub returns-then-tones-lt64-clause-run : goal.returns-then-tones-lt64-clause-run
returns-then-tones-lt64-clause-run c = short_sent _ _ c.at.ensures c.if-tones-lt64.true

pub returns-in_default-ahead : goal.returns-in_default-ahead
returns-in_default-ahead c =
    let same = c.in-Some.ensures.cases.same in
    let none = rw (c.from-turn.ensures, same) at (found_none _ _ (sym c.ahead.ensures ∙ c.in_default-ahead.is)) in
    let both = none_sent _ _ c.if-tones-lt64.false none in
    rw same (record { run = both.0; any = both.1 })

-- the depot that is served
one_ahead : (c : In-Some-ahead) → let bytes = c.in-Some.state.now in let first = ahead (num bytes 1531 % 30) (counts_in bytes) in
    (c.in-Some-ahead.ahead ≡ first) × (first < 30)
one_ahead c = found_some _ _ _ (sym (rw c.from-turn.ensures at c.ahead.ensures) ∙ c.in-Some-ahead.is)

pub overflow_add-turn : goal.overflow_add-turn
overflow_add-turn c =
    let known = one_ahead c in
    omega (arith, known.0, known.1)

pub serve-requires : goal.serve-requires
serve-requires c =
    let known = one_ahead (goal.at.serve-requires c).In-Some-ahead in
    (omega arith, rw (c.from-turn.ensures, known.0) (ahead_some _ _ known.1), c.if-tones-lt64.false)

pub returns : goal.returns
returns c =
    let known = one_ahead (goal.at.returns c).In-Some-ahead in
    let whole = c.in-Some.ensures.cases in
    let told = rw (c.from-turn.ensures, known.0, whole.same) at c.serve.ensures in
    let both = block_sent _ _ c.if-tones-lt64.false _ refl (rw whole.same at known.1) _ _ _ told in
    record { run = both.0; any = both.1 }
