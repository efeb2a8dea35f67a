-- The three calls of a trial with weights come to its promise, demand 3 with weights among it.
use mathlib.Core.Path.{◌≡◌, refl, ap}
use mathlib.Core.Bool.{Bool, true, false, cond}
use mathlib.Core.List.{List}
use Prim.Native.Nat.{ℕ, ◌+◌, ◌-◌, ◌*◌, ◌≤◌}
use native.Mathlib.Omega.{arith}
use lib.ListN.{length}
use Rattle.lists.specs.Lists.{num}
use Rattle.lists.specs.Caps.{capped}
use Rattle.lists.proofs.Sums.{total_within}
use Rattle.weight_range.specs.Range.{HasWeights, throughout}
use Rattle.block_encoder.specs.Encoding.{encode_block, encoded_into}
use Rattle.block_decoder.specs.Decoding.{decode_weighted, weighted_into}
use Rattle.block_decoder.specs.declared.BlockDecoded.{BlockDecoded}
use Rattle.demands.specs.Demand.{is_missing, is_replaced, damage_at, damage_in}
use Rattle.demands.specs.Laws.{air}
use Rattle.demands.proofs.Sent.{sends, air_sent}
use Rattle.weighted_demands.proofs.Demands.{weighted_demand3}
use Rattle.trial.specs.WeightedTried.{weighted_trial_of, WeightedTried}
use Rattle.refusal.specs.Refused.{Answered}

-- ---- D of 64 tones is told as it is

place_damage : (sent heard weights : List ℕ) (t : ℕ) → num weights t ≤ 15 → damage_at 15 sent heard weights t ≤ 30
unfolding damage_at
place_damage sent heard weights t h = by (is_missing heard t) (is_replaced sent heard t)
  where
    by : (u r : Bool) → cond u 15 (cond r (15 + num weights t) (15 - num weights t)) ≤ 30
    by true r = omega arith
    by false true = omega arith
    by false false = omega arith

damage_told : (sent heard weights : List ℕ) → length heard ≡ 64 → HasWeights 15 weights → capped (damage_in 15 sent heard weights) ≡ damage_in 15 sent heard weights
unfolding capped damage_in
damage_told sent heard weights n h =
    omega (
      arith,
      total_within (length heard) 30 (damage_at 15 sent heard weights) (λ t l. place_damage sent heard weights t (h.each t (omega arith))),
      ap (λ (k : ℕ). k * 30) n,
    )

-- ---- the promise

-- the tones that the first receiver hears are `on`
pub weighted_tried : {b m : ℕ} {text heard weights tones one two tones' one' two' on : List ℕ} {sent : Answered ℕ} {first second : BlockDecoded} {d : ℕ}
    → sent ≡ encode_block b text (length tones)
    → tones' ≡ encoded_into b text tones
    → on ≡ air b text tones
    → d ≡ capped (damage_in 15 on heard weights)
    → first ≡ decode_weighted b m on (throughout 15) (length one)
    → one' ≡ weighted_into b m on (throughout 15) one
    → second ≡ decode_weighted b m heard weights (length two)
    → two' ≡ weighted_into b m heard weights two
    → WeightedTried b m text heard weights (record { encoded = sent; first = first; second = second; damage = d }) tones tones' one one' two two'
unfolding weighted_trial_of
weighted_tried {b} {m} {text} {heard} {weights} {tones} {one} {two} answer output cut damage first given second heard-as =
    record {
      answers = rw (answer, damage, first, second, cut) refl;
      sent = output;
      first_heard = rw cut at given;
      second_heard = heard-as;
      demand = λ c.
          let sent = air_sent b text tones (sends b text tones c.settings.mode c.codes c.room_sent) in
          let told = damage_told (air b text tones) heard weights c.damaged.count c.weighed in
          rw (answer, output, damage, first, given, second, heard-as, cut, told, sent)
          (weighted_demand3.met b m text heard weights tones one two c);
    }
