use mathlib.Core.Path.{◌∙◌, ap}
use Rattle.trial.specs.WeightedTried.{weighted_trial_of}
use Rattle.told.specs.Told.{counted_told}
use Rattle.told.proofs.Kept.{counted_kept}
use Rattle.olivia.specs.Told.{weighted_trial_told}
use Rattle.olivia.proofs.Carried.{block_sent_small, block_heard_small}
use Rattle.olivia.proofs.WeightedTrialsTold.{weighted_tried_told}
use Rattle.olivia.proofs.olivia_weighted_trial_run.Goals as goal

pub returns : goal.returns
unfolding weighted_trial_of weighted_trial_told
returns c =
    let ran = c.run_weighted-weighed in
    let sent = counted_kept ran.result.encoded (rw ran.ensures.answers (block_sent_small _ _ _)) in
    let one = counted_kept ran.result.first.answer (rw ran.ensures.answers (block_heard_small _ _ _ _ _ _)) in
    let two = counted_kept ran.result.second.answer (rw ran.ensures.answers (block_heard_small _ _ _ _ _ _)) in
    let e0 = c.from.ensures ∙ ap counted_told sent in
    let e1 = c.from-2.ensures ∙ ap counted_told one in
    let e2 = c.from-3.ensures ∙ ap counted_told two in
    weighted_tried_told _ _ _ _ _ _ _ _ _ _ _ ran.result _ (λ i. record { encoded = e0 i; first = e1 i; second = e2 i; damage = ran.result.damage }) ran.ensures
