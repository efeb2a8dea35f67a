use mathlib.Core.Path.{sym, ◌∙◌, ap}
use Prim.Native.Nat.{◌≤◌}
use native.Mathlib.Omega.{arith}
use lib.ListN.{length}
use lib.Seq.{length-take-le}
use Rattle.lists.specs.Places.{first}
use Rattle.refusal.specs.Refused.{refused_at}
use Rattle.delivery.specs.Delivery.{is_zero}
use Rattle.lists.proofs.Found.{found_some, found_none}
use Rattle.delivery.proofs.TextCases.{zero_found, refuses_zero, refuses_filling, refuses_long, delivers}
use Rattle.delivery.proofs.TextEnds.{end_within}
use Rattle.std.proofs.Common.{Err}
use Rattle.refusal.specs.declared.Reason.{Reason}
use Rattle.delivery.proofs.judge.Goals as goal
use Rattle.delivery.proofs.judge.Goals.{After-text_end-n, In_default}

-- the end lies within the codes
within_codes : (c : After-text_end-n) → c.text_end-n.result ≤ length c.args.codes.now
within_codes c =
    let codes = c.args.codes.now in
    omega (arith, c.text_end-n.ensures, end_within codes)

pub slice_bounds-first_zero-end : goal.slice_bounds-first_zero-end
slice_bounds-first_zero-end c = sym (length-take-le _ _ (within_codes (goal.at.slice_bounds-first_zero-end c).After-text_end-n))

pub returns-in-Some : goal.returns-in-Some
returns-in-Some c =
    let codes = c.args.codes.now in
    let n = c.text_end-n.result in
    let known =
    found_some n (first (is_zero codes) n) c.in-Some.zero (sym (zero_found codes n c.text_end-n.ensures) ∙ sym c.first_zero.ensures ∙ c.in-Some.is) in
    ap Err (c.at.ensures ∙ ap (refused_at Reason.Zero) known.0) ∙ sym (refuses_zero _ _ codes n c.text_end-n.ensures known.1)

-- no 0 stands before the end, once that is checked
no_zero_known : (c : In_default) → c.text_end-n.result ≤ first (is_zero c.args.codes.now) c.text_end-n.result
no_zero_known c =
    let codes = c.args.codes.now in
    let n = c.text_end-n.result in
    found_none n _ (sym (zero_found codes n c.text_end-n.ensures) ∙ sym c.first_zero.ensures ∙ c.in_default.is)

pub overflow_sub-codes : goal.overflow_sub-codes
overflow_sub-codes c = within_codes (goal.at.overflow_sub-codes c).After-text_end-n

pub returns-then-mode-codes : goal.returns-then-mode-codes
returns-then-mode-codes c =
    let a = c.args in
    let none = no_zero_known (goal.at.returns-then-mode-codes c).In_default in
    ap Err c.at-then-mode-codes.ensures
    ∙ sym (refuses_filling a.limit a.mode a.codes.now c.text_end-n.result c.text_end-n.ensures none (omega (arith, c.if-mode-codes.true)))

pub returns-then-limit-n : goal.returns-then-limit-n
returns-then-limit-n c =
    let none = no_zero_known (goal.at.returns-then-limit-n c).In_default in
    ap Err c.at-then-limit-n.ensures ∙ sym (refuses_long _ _ _ _ c.text_end-n.ensures none c.if-mode-codes.false c.if-limit-n.true)

pub returns : goal.returns
returns c =
    sym (delivers _ _ _ _ record {
      end = c.text_end-n.ensures;
      no_zero = no_zero_known (goal.at.returns c).In_default;
      filling = c.if-mode-codes.false;
      fits = c.if-limit-n.false;
    })
