use Rattle.std.proofs.Common.{ℕ, List, ◌∙◌, ap, ◌+◌, ◌-◌, length, arith}
use lib.ListN.{drop}
use lib.Seq.{get_or-take, get_or-drop}
use Rattle.lists.specs.Lists.{num}
use Rattle.lists.proofs.Tables.{is_tab}
use Rattle.search.proofs.window.Goals as goal

pub returns : goal.returns
returns c =
    let start = c.args.start in
    let numbers = c.args.numbers.now in
    let whole = rw c.unwrap.ensures at c.as_array.ensures.cases in
    is_tab _ 0 64 _ (ap length whole.same ∙ whole.long)
    (λ t h. ap (λ (x : List ℕ). num x t) whole.same ∙ get_or-take (start + 64 - start) (drop start numbers) t 0 (omega arith) ∙ get_or-drop start numbers t 0)
