-- The laws of hearing with weights. Each is the promise of the function of the same name in src/laws.rt.
use Rattle.std.specs.Prelude.{◌≡◌, List, map, ◌⊎◌, ℕ, ◌*◌, ◌<◌, ◌≤◌, ◌^◌, pos, nat_abs, ◌*ℤ◌, length, Ok, Err}
use Rattle.lists.specs.Lists.{num}
use Rattle.walsh.specs.Words.{corr}
use Rattle.scaling.specs.Scaled.{times_character}
use Rattle.chain.specs.Chain.{missing_mark}
use Rattle.tone_range.specs.Range.{HasTones}
use Rattle.weight_range.specs.Range.{HasWeights, throughout}
use Rattle.block_decoder.specs.Decoding.{plain, symbols_of, count_in, weighted_at, decode_block, decode_weighted, decoded_into, weighted_into}
use Rattle.block_decoder.specs.declared.BlockDecoded.{BlockDecoded}
use Rattle.demands.specs.Laws.{Precisely}
use Rattle.weighted_demands.specs.Demand.{IsWeightedSet}
use Rattle.refusal.specs.Refused.{Answered}

-- ---- plain hearing as a case of hearing with weights

-- an answer whose lead is k times as large
abbrev pub times_answer : ℕ → Answered ℕ → Answered ℕ
times_answer k (Ok n) = Ok n
times_answer k (Err r) = Err (record { reason = r.reason; place = r.place; lead = k * r.lead })

-- and its characters with it
unfoldable pub times_block : ℕ → BlockDecoded → BlockDecoded
times_block k d = record { answer = times_answer k d.answer; characters = map (times_character k) d.characters }

-- Plain hearing at lead m is hearing with weight 15 throughout at lead 15 * m, but that leads and correlations are 15 times as large; and it is
-- hearing with weight 1 throughout at lead m.
pub record PlainCase : Type 0 where
  pub answer : (b m : ℕ) (tones : List ℕ) (room : ℕ) → decode_weighted b (15 * m) tones (throughout 15) room ≡ times_block 15 (decode_block b m tones room)
  pub output : (b m : ℕ) (tones out : List ℕ) → weighted_into b (15 * m) tones (throughout 15) out ≡ decoded_into b m tones out
  pub correlations : (b : ℕ) (tones : List ℕ) (q c : ℕ)
      → corr (count_in b (symbols_of tones) (throughout 15) q) c ≡ pos 15 *ℤ corr (count_in b (symbols_of tones) plain q) c
  pub one_answer : (b m : ℕ) (tones : List ℕ) (room : ℕ) → m ≤ 64 → decode_weighted b m tones plain room ≡ decode_block b m tones room
  pub one_output : (b m : ℕ) (tones out : List ℕ) → m ≤ 64 → weighted_into b m tones plain out ≡ decoded_into b m tones out

-- ---- what counts nothing

-- at t nothing is counted: the tone is missing, or its weight is 0
abbrev pub IsSilent : List ℕ → List ℕ → ℕ → Type 0
IsSilent tones weights t = (num tones t ≡ missing_mark) ⊎ (num weights t ≡ 0)

-- at t two blocks count alike: both nothing, or they have the same tone and weight
abbrev pub AreAlike : List ℕ → List ℕ → List ℕ → List ℕ → ℕ → Type 0
AreAlike tones weights tones' weights' t =
    (IsSilent tones weights t × IsSilent tones' weights' t) ⊎ ((num tones t ≡ num tones' t) × (num weights t ≡ num weights' t))

-- A tone of weight 0 counts like a missing one, for every character: blocks that differ only in such tones and weights are decided alike.
pub record Silence : Type 0 where
  pub counts : (b : ℕ) (tones weights : List ℕ) (q t : ℕ) → t < 64 → IsSilent tones weights t → count_in b (symbols_of tones) weights q t ≡ pos 0
  pub decided : (b : ℕ) (tones weights tones' weights' : List ℕ) → ((t : ℕ) → t < 64 → AreAlike tones weights tones' weights' t)
      → (q : ℕ) → weighted_at b tones weights q ≡ weighted_at b tones' weights' q

-- ---- what is heard

-- Correlations are from -960 to 960, and leads at most 960.
pub record WeightedRange : Type 0 where
  pub correlations : (b : ℕ) (tones weights : List ℕ) (q c : ℕ) → HasWeights 15 weights → nat_abs (corr (count_in b (symbols_of tones) weights q) c) ≤ 960
  pub leads : (b : ℕ) (tones weights : List ℕ) (q : ℕ) → HasWeights 15 weights → (weighted_at b tones weights q).lead ≤ 960

-- A block that breaks no limit is refused as unclear precisely when some character's lead is under m.
pub record WeightedClear : Type 0 where
  pub precisely : (b m : ℕ) (tones weights codes : List ℕ) → IsWeightedSet b m → HasTones (2 ^ b) tones → HasWeights 15 weights → b ≤ length codes
      → Precisely b m (decode_weighted b m tones weights (length codes)) codes (weighted_into b m tones weights codes)
