use native.Mathlib.Nat.{mod_self}
use borrow.Author.Rules.{rules}
use Rattle.chain.proofs.Values.{eight_whole}
use Rattle.chain.proofs.interleaver.step.Goals as goal

pub returns-then-b-eq3 : goal.returns-then-b-eq3
returns-then-b-eq3 c = record { whole = rw c.if-b-eq3.true; some = search rules; inside = search rules }

pub returns-then-b-lt5 : goal.returns-then-b-lt5
returns-then-b-lt5 c = record { whole = eight_whole _ c.requires.0 c.if-b-lt5.true c.if-b-eq3.false; some = search rules; inside = search rules }

pub returns-else-b-lt5 : goal.returns-else-b-lt5
returns-else-b-lt5 c = record { whole = mod_self _; some = search rules; inside = search rules }
