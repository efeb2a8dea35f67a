-- Demand 3 with weights, document 02's order 3, said of the answers and outputs of three calls: a text is encoded, decoded with weight 15
-- throughout, and decoded with other weights from what was heard of it. Names are as in `demands/specs/Demand`.
use Rattle.std.specs.Prelude.{◌≡◌, true, List, ◌⊎◌, ℕ, ◌+◌, ◌*◌, ◌<◌, ◌≤◌, ◌^◌, length, Ok}
use Rattle.lists.specs.Lists.{over}
use Rattle.refusal.specs.Checks.{is_mode, is_lead_at}
use Rattle.chain.specs.Chain.{tones_of}
use Rattle.tone_range.specs.Range.{HasTones}
use Rattle.weight_range.specs.Range.{HasWeights, throughout}
use Rattle.block_encoder.specs.Encoding.{IsText, encode_block, encoded_into}
use Rattle.block_decoder.specs.Decoding.{decode_weighted, weighted_into}
use Rattle.demands.specs.Demand.{damage_in, Gives, RefusesAsUnclear}
use Rattle.weighted_demands.specs.declared.WeightedTrial.{WeightedTrial}

-- ---- what the demand covers

-- every b from 1 to 8 and every m from 1 to 960
pub record IsWeightedSet (b m : ℕ) : Type 0 where
  pub mode : is_mode b ≡ true
  pub lead : is_lead_at 15 m ≡ true

-- the second receiver hears 64 tones, each below 2^b or the missing mark, with 64 weights from 0 to 15, whatever they are
pub record WeightedCovered (b m : ℕ) (text heard weights tones one two : List ℕ) : Type 0 where
  pub settings : IsWeightedSet b m
  pub codes : IsText b text
  pub damaged : HasTones (2 ^ b) heard
  pub weighed : HasWeights 15 weights
  pub room_sent : 64 ≤ length tones
  pub room_one : b ≤ length one
  pub room_two : b ≤ length two

-- ---- what it says

-- of the three answers with D, and of the three outputs
pub record MeetsWeightedDemand3 (b m : ℕ) (text : List ℕ) (t : WeightedTrial) (tones tones' one one' two two' : List ℕ) : Type 0 where
  pub accepted : t.encoded ≡ Ok 64
  pub sent : tones' ≡ over (tones_of b text) tones
  pub first : Gives b text t.first one one'
  pub same : m + 2 * t.damage ≤ 960 → Gives b text t.second two two'
  pub no_other : 2 * t.damage < 960 + m → Gives b text t.second two two' ⊎ RefusesAsUnclear b m t.second two two'

-- the demand, of the definitions: for every text, mode, set lead, damage and weights
pub record WeightedDemand3 : Type 0 where
  pub met : (b m : ℕ) (text heard weights tones one two : List ℕ) → WeightedCovered b m text heard weights tones one two
      → MeetsWeightedDemand3 b m text
      (record {
        encoded = encode_block b text (length tones);
        first = decode_weighted b m (tones_of b text) (throughout 15) (length one);
        second = decode_weighted b m heard weights (length two);
        damage = damage_in 15 (tones_of b text) heard weights;
      })
      tones (encoded_into b text tones)
      one (weighted_into b m (tones_of b text) (throughout 15) one)
      two (weighted_into b m heard weights two)
