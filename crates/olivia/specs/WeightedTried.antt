-- The promise of a trial with weights to C: what it is told of the three calls, and that demand 3 with weights holds of this and of the
-- outputs. Names are as in `demands/specs/Demand`.
use Rattle.std.specs.Prelude.{◌≡◌, List, ◌⊎◌, ℕ, ◌+◌, ◌*◌, ◌<◌, ◌≤◌, length}
use Rattle.lists.specs.Lists.{over}
use Rattle.decision.specs.declared.Character.{Character}
use Rattle.chain.specs.Chain.{tones_of}
use Rattle.weight_range.specs.Range.{throughout}
use Rattle.block_encoder.specs.Encoding.{encoded_into}
use Rattle.block_decoder.specs.Decoding.{decode_weighted, weighted_into}
use Rattle.demands.specs.Laws.{air}
use Rattle.weighted_demands.specs.Demand.{WeightedCovered}
use Rattle.trial.specs.WeightedTried.{weighted_trial_of}
use Rattle.olivia.specs.Told.{weighted_trial_told}
use Rattle.olivia.specs.Tried.{GivesForC, RefusesForC}
use Rattle.olivia.specs.declared.WeightedTrialAnswers.{WeightedTrialAnswers}

-- the demand, by the numbers that C gets; the characters are those that the second receiver decided
pub record MeetsWeightedDemand3ForC (b m : ℕ) (text : List ℕ) (characters : List Character) (r : WeightedTrialAnswers) (tones tones' one one' two two' : List ℕ) : Type 0 where
  pub accepted : r.encoded.number ≡ 0
  pub count : r.encoded.count ≡ 64
  pub sent : tones' ≡ over (tones_of b text) tones
  pub first : GivesForC b text r.first one one'
  pub same : m + 2 * r.damage ≤ 960 → GivesForC b text r.second two two'
  pub no_other : 2 * r.damage < 960 + m → GivesForC b text r.second two two' ⊎ RefusesForC b m characters r.second two two'

pub record WeightedTriedForC (b m : ℕ) (text heard weights : List ℕ) (r : WeightedTrialAnswers) (tones tones' one one' two two' : List ℕ) : Type 0 where
  pub answers : r ≡ weighted_trial_told (weighted_trial_of b m text heard weights tones one two)
  pub sent : tones' ≡ encoded_into b text tones
  pub first_heard : one' ≡ weighted_into b m (air b text tones) (throughout 15) one
  pub second_heard : two' ≡ weighted_into b m heard weights two
  pub demand : WeightedCovered b m text heard weights tones one two
      → MeetsWeightedDemand3ForC b m text (decode_weighted b m heard weights (length two)).characters r tones tones' one one' two two'
