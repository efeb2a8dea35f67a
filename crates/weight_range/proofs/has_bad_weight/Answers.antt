use Rattle.std.proofs.Common.{◌≡◌, length, arith}
use Rattle.lists.proofs.Places.{any_more}
use Rattle.weight_range.specs.Range.{bad_weight, first_bad_weight}
use Rattle.weight_range.proofs.has_bad_weight.Goals as goal

pub loop-weight-preserved : goal.loop-weight-preserved
loop-weight-preserved c = any_more (bad_weight c.args.greatest c.args.weights.now) c.loop-weight.weight-index c.loop-weight.found c.loop-weight.invariant

pub returns : goal.returns
unfolding first_bad_weight
returns c =
    let all : c.loop-weight.weight-index ≡ length c.args.weights.now = omega arith in
    rw all at c.loop-weight.invariant
