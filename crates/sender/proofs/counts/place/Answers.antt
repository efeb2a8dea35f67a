use Rattle.std.proofs.Common.{◌∙◌, sym, ap, Err, arith}
use Rattle.sender.specs.State.{counts_in}
use Rattle.sender.proofs.Steps.{one_more_reserved}
use Rattle.sender.proofs.PlaceCases.{refuses_depot, refuses_full, refuses_sum, takes_block}
use Rattle.sender.proofs.counts.place.Goals as goal

pub returns-then-depot-gt29 : goal.returns-then-depot-gt29
returns-then-depot-gt29 c = ap Err c.at.ensures ∙ sym (refuses_depot _ _ c.if-depot-gt29.true)

pub returns-then-own-ge8 : goal.returns-then-own-ge8
returns-then-own-ge8 c = ap Err c.at-then-own-ge8.ensures ∙ sym (refuses_full _ _ (omega arith) (omega arith))

pub returns-then-share-reserved : goal.returns-then-share-reserved
returns-then-share-reserved c =
    let a = c.args in
    let sums = one_more_reserved (counts_in a.state.now) a.depot (omega arith) in
    ap Err c.at-then-share-reserved.ensures
    ∙ sym (refuses_sum (counts_in a.state.now) a.depot (omega arith) (omega arith) (omega (arith, sums)))

pub returns : goal.returns
returns c =
    let a = c.args in
    let sums = one_more_reserved (counts_in a.state.now) a.depot (omega arith) in
    sym (takes_block (counts_in a.state.now) a.depot (omega arith) (omega arith) (omega (arith, sums)))
