use mathlib.Core.Path.{◌∙◌, ap}
use Rattle.trial.specs.Tried.{trial_of}
use Rattle.told.specs.Told.{counted_told}
use Rattle.told.proofs.Kept.{counted_kept}
use Rattle.olivia.specs.Told.{trial_told}
use Rattle.olivia.proofs.Carried.{block_sent_small, block_heard_small}
use Rattle.olivia.proofs.TrialsTold.{tried_told}
use Rattle.olivia.proofs.olivia_trial_run.Goals as goal

pub returns : goal.returns
unfolding trial_of trial_told
returns c =
    let ran = c.run-trial in
    let sent = counted_kept ran.result.encoded (rw ran.ensures.answers (block_sent_small _ _ _)) in
    let one = counted_kept ran.result.first.answer (rw ran.ensures.answers (block_heard_small _ _ _ _ _ _)) in
    let two = counted_kept ran.result.second.answer (rw ran.ensures.answers (block_heard_small _ _ _ _ _ _)) in
    let e0 = c.from.ensures ∙ ap counted_told sent in
    let e1 = c.from-2.ensures ∙ ap counted_told one in
    let e2 = c.from-3.ensures ∙ ap counted_told two in
    tried_told _ _ _ _ _ _ _ _ _ _ ran.result _ (λ i. record { encoded = e0 i; first = e1 i; second = e2 i; replaced = c.capped.ensures i; missing = c.capped-2.ensures i }) ran.ensures
