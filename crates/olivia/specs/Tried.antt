-- The promise of a trial to C: what it is told of the three calls, and that demand 3 holds of this and of the outputs. Names are as in
-- `demands/specs/Demand`.
use Rattle.std.specs.Prelude.{◌≡◌, List, ◌⊎◌, ℕ, ◌+◌, ◌*◌, ◌<◌, ◌≤◌, length}
use Rattle.lists.specs.Lists.{over}
use Rattle.decision.specs.declared.Character.{Character}
use Rattle.chain.specs.Chain.{tones_of}
use Rattle.block_encoder.specs.Encoding.{encoded_into}
use Rattle.block_decoder.specs.Decoding.{lead_in, decode_block, decoded_into}
use Rattle.demands.specs.Demand.{Covered}
use Rattle.demands.specs.Laws.{air}
use Rattle.trial.specs.Tried.{trial_of}
use Rattle.told.specs.declared.Answer.{Answer}
use Rattle.olivia.specs.Told.{trial_told}
use Rattle.olivia.specs.declared.TrialAnswers.{TrialAnswers}

-- a text is given: number 0 and count b, and its codes are written
pub record GivesForC (b : ℕ) (text : List ℕ) (a : Answer) (out out' : List ℕ) : Type 0 where
  pub number : a.number ≡ 0
  pub count : a.count ≡ b
  pub written : out' ≡ over text out

-- a block of these characters is refused as unclear: number 10, with the place and lead of the lowest unclear one, and nothing is written
pub record RefusesForC (b m : ℕ) (characters : List Character) (a : Answer) (out out' : List ℕ) : Type 0 where
  pub number : a.number ≡ 10
  pub inside : a.place < b
  pub lead : a.lead ≡ lead_in characters a.place
  pub unclear : a.lead < m
  pub lowest : (q : ℕ) → q < a.place → m ≤ lead_in characters q
  pub kept : out' ≡ out

-- demand 3, by the numbers that C gets; the characters are those that the second receiver decided
pub record MeetsDemand3ForC (b m : ℕ) (text : List ℕ) (characters : List Character) (r : TrialAnswers) (tones tones' one one' two two' : List ℕ) : Type 0 where
  pub accepted : r.encoded.number ≡ 0
  pub count : r.encoded.count ≡ 64
  pub sent : tones' ≡ over (tones_of b text) tones
  pub first : GivesForC b text r.first one one'
  pub places : r.replaced + r.missing ≤ 64
  pub same : m + 2 * r.missing + 4 * r.replaced ≤ 64 → GivesForC b text r.second two two'
  pub no_other : 2 * r.missing + 4 * r.replaced < 64 + m → GivesForC b text r.second two two' ⊎ RefusesForC b m characters r.second two two'

pub record TriedForC (b m : ℕ) (text heard : List ℕ) (r : TrialAnswers) (tones tones' one one' two two' : List ℕ) : Type 0 where
  pub answers : r ≡ trial_told (trial_of b m text heard tones one two)
  pub sent : tones' ≡ encoded_into b text tones
  pub first_heard : one' ≡ decoded_into b m (air b text tones) one
  pub second_heard : two' ≡ decoded_into b m heard two
  pub demand : Covered b m text heard tones one two
      → MeetsDemand3ForC b m text (decode_block b m heard (length two)).characters r tones tones' one one' two two'
