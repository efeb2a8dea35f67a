use Rattle.std.proofs.Common.{rules, tests, ◌≡◌, true, false, ℕ, ◌+◌, ◌%◌, ltb}
use Rattle.std.proofs.lemmas.Iterator.{first_from_Range}
use Rattle.sender.specs.Queues.{ahead}
use Rattle.sender.specs.State.{counts_in}
use Rattle.sender.proofs.Searches.{found_below}
use Rattle.sender.proofs.counts.ahead.Goals as goal

pub returns : goal.returns
unfolding ahead
returns c =
    let a = c.args in
    let some = λ (k : ℕ). ltb 0 (counts_in a.state.now ((a.turn + k) % 30)) in
    found_below some 30 _
    (first_from_Range _ _ _ _ (λ k. some k ≡ true) (λ k. some k ≡ false) c.find.ensures.ran (λ k q h. search (rules, tests))
    (λ k q h. search (rules, tests)))
