-- Before each turn the text is as it was before place `at`, and what stands from there on follows the digits of what is left.
use mathlib.Core.Path.{refl, ◌∙◌}
use mathlib.Core.List.{◌++◌}
use Prim.Native.Nat.{◌+◌, ◌-◌, ◌%◌, ◌<◌, ◌≤◌}
use native.Mathlib.Omega.{arith}
use lib.ListN.{length, drop, length-append, length-drop, length-set}
use Rattle.text.specs.Decimal.{decimal}
use Rattle.text.proofs.Decimals.{decimal_some, decimal_more_length, decimal_short}
use Rattle.text.proofs.Endings.{front_kept, digit_more, first_place, ended}
use Rattle.text.proofs.put_before.Goals as goal

pub loop-at-init : goal.loop-at-init
loop-at-init c = record { within = omega arith; room = refl; fits = omega (arith, decimal_short c.args.n (omega arith)); front = refl; made = refl }

pub loop-at-preserved : goal.loop-at-preserved
loop-at-preserved c =
    let l = c.loop-at in
    let a = c.args in
    let v = 48 + l.left % 10 in record {
      within = omega arith;
      room = length-set l.text (l.at - 1) v ∙ l.invariant.room;
      fits = omega (arith, decimal_more_length l.left (omega arith));
      front = front_kept l.text l.at (omega arith) (omega arith) a.text.now l.invariant.front v;
      made = digit_more l.text l.at (omega arith) (omega arith) (decimal a.n ++ drop a.place a.text.now) l.left l.invariant.made (omega arith);
    }

pub returns-then-left-lt10 : goal.returns-then-left-lt10
returns-then-left-lt10 c =
    let l = c.loop-at in
    let a = c.args in
    let rest = drop a.place a.text.now in
    let after = decimal a.n ++ rest in
    let some : 0 < l.at = omega arith in
    let within : l.at ≤ length l.text = omega arith in
    let begin = first_place l.text l.at some within after l.left l.invariant.made (omega arith) in record {
      answer = omega (arith, begin, length-append (decimal a.n) rest, length-drop a.place a.text.now);
      output = ended l.text l.at some within after l.left l.invariant.made (omega arith) a.text.now l.invariant.front;
    }

-- a number has a digit, and the places suffice for 20
pub returns : goal.returns
returns c = absurd (omega (arith, decimal_some c.loop-at.left, c.loop-at.invariant.fits))
