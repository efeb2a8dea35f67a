use Rattle.std.proofs.Common.{sym, ◌∙◌}
use Rattle.chain.proofs.Values.{mode_values}
use Rattle.weight_range.proofs.Ranges.{fewer_weights}
use Rattle.weight_range.specs.Range.{HasWeights}
use Rattle.energy.proofs.EnergyCases.{listened_refused, listened_passed, listened_checked}
use Rattle.energy.proofs.Summed.{weights_heard, weights_few, same_summed}
use Rattle.energy.proofs.of_heard.Goals as goal
use Rattle.energy.proofs.of_heard.Goals.{In-Ok}

has_weights : (c : In-Ok) → HasWeights 15 c.args.weights.now
has_weights c = fewer_weights _ _ 15 c.requires (listened_checked _ _ _ _ _ (sym c.in-Ok.ensures)).1

pub total-requires : goal.total-requires
total-requires c =
    rw (weights_heard _ _ (listened_passed _ _ _ _ _ (sym c.in-Ok.ensures)).0) (weights_few _ _ (has_weights (goal.at.total-requires c).In-Ok))

pub returns-in-Ok : goal.returns-in-Ok
returns-in-Ok c =
    let heard = listened_passed _ _ _ _ _ (sym c.in-Ok.ensures) in
    let mode = (listened_checked _ _ _ _ _ (sym c.in-Ok.ensures)).0 in
    same_summed _ _ (has_weights (goal.at.returns-in-Ok c).In-Ok) _ mode _ (c.values-values.ensures ∙ mode_values _ mode) _ _ _ heard.0 c.total.ensures c.energies.ensures
    ∙ sym heard.1

pub returns-in-Err : goal.returns-in-Err
returns-in-Err c = sym (listened_refused _ _ _ _ _ (sym c.in-Err.ensures))
