-- What the three calls of a trial with weights answer and leave in their outputs, and that demand 3 with weights holds of it. Names are as in
-- `Demand`.
use Rattle.std.specs.Prelude.{◌≡◌, List, ℕ, length}
use Rattle.lists.specs.Caps.{capped}
use Rattle.weight_range.specs.Range.{throughout}
use Rattle.block_encoder.specs.Encoding.{encode_block, encoded_into}
use Rattle.block_decoder.specs.Decoding.{decode_weighted, weighted_into}
use Rattle.demands.specs.Demand.{damage_in}
use Rattle.demands.specs.Laws.{air}
use Rattle.weighted_demands.specs.Demand.{WeightedCovered, MeetsWeightedDemand3}
use Rattle.weighted_demands.specs.declared.WeightedTrial.{WeightedTrial}

unfoldable pub weighted_trial_of : ℕ → ℕ → List ℕ → List ℕ → List ℕ → List ℕ → List ℕ → List ℕ → WeightedTrial
weighted_trial_of b m text heard weights tones one two = record {
  encoded = encode_block b text (length tones);
  first = decode_weighted b m (air b text tones) (throughout 15) (length one);
  second = decode_weighted b m heard weights (length two);
  damage = capped (damage_in 15 (air b text tones) heard weights);
}

-- the promise of such a trial: the whole answer and every output, and the demand of them
pub record WeightedTried (b m : ℕ) (text heard weights : List ℕ) (t : WeightedTrial) (tones tones' one one' two two' : List ℕ) : Type 0 where
  pub answers : t ≡ weighted_trial_of b m text heard weights tones one two
  pub sent : tones' ≡ encoded_into b text tones
  pub first_heard : one' ≡ weighted_into b m (air b text tones) (throughout 15) one
  pub second_heard : two' ≡ weighted_into b m heard weights two
  pub demand : WeightedCovered b m text heard weights tones one two → MeetsWeightedDemand3 b m text t tones tones' one one' two two'
