use Rattle.std.proofs.Common.{◌≡◌, sym, ap, ◌≤◌, Ok, Err, IsErrAnd, arith}
use Rattle.refusal.specs.Refused.{Answered}
use Rattle.refusal.specs.declared.Refusal.{Refusal}
use Rattle.refusal.proofs.Limits.{mode_range}
use Rattle.sender.specs.State.{counts_in}
use Rattle.sender.proofs.Cases.{Takes, taken_checks}
use Rattle.sender.proofs.HandingIn.{refused_in, taken_in}
use Rattle.sender.proofs.lent.hand_in.Goals as goal
use Rattle.sender.proofs.lent.hand_in.Goals.{In_ok-judge}

as_err : (r : Answered Unit) (x : Refusal) → IsErrAnd r (λ y. y ≡ x) → r ≡ Err x
as_err (Err y) x h = ap Err h
as_err (Ok u) x h = absurd h

pub returns-in_err-judge : goal.returns-in_err-judge
returns-in_err-judge c =
    let whole = c.in-Some.ensures.cases in
    let told : ◌≡◌ {A = Answered Unit} c.from_residual.result (Err c.in_err-judge.field-0.0) = as_err _ _ c.from_residual.ensures.1 in
    let both = refused_in _ _ _ whole.long _ (rw whole.same at (sym c.in_err-judge.ensures)) in
    rw (told, whole.same) (record { run = both.0; any = both.1 })

-- the block passes the checks
taken : (c : In_ok-judge) → let a = c.args in Takes (counts_in c.in-Some.state.now) a.depot (record { mode = a.mode; codes = a.codes.now })
taken c = taken_checks _ _ _ (sym c.in_ok-judge.ensures)

mode_small : (c : In_ok-judge) → c.args.mode ≤ 8
mode_small c = (mode_range c.args.mode (taken c).right.mode).1

pub overflow_cast-depot : goal.overflow_cast-depot
overflow_cast-depot c = omega (arith, (taken c).known)

pub overflow_cast-mode : goal.overflow_cast-mode
overflow_cast-mode c = omega (arith, mode_small (goal.at.overflow_cast-mode c).In_ok-judge)

pub store-requires : goal.store-requires
store-requires c =
    let at = (goal.at.store-requires c).In_ok-judge in
    let t = taken at in
    (t.known, t.own, omega (arith, t.right.count, mode_small at))

pub returns : goal.returns
returns c =
    let whole = c.in-Some.ensures.cases in
    let both = taken_in _ _ _ whole.long _ (rw whole.same at (sym c.in_ok-judge.ensures)) (rw whole.same at c.store.ensures) in
    record { run = both.0; any = both.1 }
