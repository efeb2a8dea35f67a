use mathlib.Core.Path.{◌∙◌, ap}
use mathlib.Core.Bool.{false}
use mathlib.Core.List.{List}
use Prim.Native.Nat.{◌%◌}
use native.Mathlib.Omega.{arith}
use lib.IntN.{ℤ, pos}
use lib.ListN.{get_or}
use Rattle.lists.specs.Lists.{tab, num, at}
use Rattle.lists.proofs.Tables.{tab_at}
use Rattle.walsh.specs.Words.{corr, correlations_of}
use Rattle.walsh.proofs.Signed.{abs_signed}
use Rattle.walsh.proofs.Sizes.{tab_within, correlations_within}
use Rattle.lead_finder.specs.Counts.{count_at}
use Rattle.decision.specs.Decision.{decision}
use Rattle.decision.proofs.Choice.{decision_ext, counts_decide}
use Rattle.lead_finder.proofs.decide.Goals as goal

pub find-requires : goal.find-requires
find-requires c =
    let a = c.args in
    let weights = a.weights.now in
    let h = count_at a.signs weights in
    rw (c.correlations.ensures, c.counts.ensures)
    (correlations_within (tab h 64)
    (tab_within 15 h (λ t. omega (arith, abs_signed (get_or a.signs t false) (pos (num weights t % 16))))))

pub returns : goal.returns
unfolding correlations_of
returns c =
    let a = c.args in
    let h = count_at a.signs a.weights.now in
    c.find.ensures
    ∙ ap (λ (x : List ℤ). decision (at x)) (c.correlations.ensures ∙ ap (λ (x : List ℤ). correlations_of (at x)) c.counts.ensures)
    ∙ decision_ext (at (correlations_of (at (tab h 64)))) (corr (at (tab h 64))) (λ k l. tab_at (corr (at (tab h 64))) (pos 0) 64 k l)
    ∙ counts_decide (at (tab h 64)) h (tab_at h (pos 0) 64)
