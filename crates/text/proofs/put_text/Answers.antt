use mathlib.Core.Path.{refl}
use lib.ListN.{length}
use Rattle.lists.specs.Lists.{over}
use Rattle.lists.proofs.Fronts.{over_none}
use Rattle.text.proofs.Writing.{written_whole, written_none}
use Rattle.text.proofs.put_text.Goals as goal

pub returns-then-out-text : goal.returns-then-out-text
returns-then-out-text c =
    let a = c.args in
    let none = written_none a.text.now (length a.out.now) c.if-out-text.true in record { answer = rw none refl; output = rw none (over_none a.out.now) }

pub returns : goal.returns
unfolding over
returns c =
    let a = c.args in
    let whole = written_whole a.text.now (length a.out.now) c.if-out-text.false in record { answer = rw whole refl; output = rw (whole, c.copy_from_slice.ensures.after) refl }
