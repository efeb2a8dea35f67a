-- Demand 3 of document 01, said of the answers and outputs of three calls: a text is encoded, decoded, and decoded from what was heard of
-- it. The outputs are `tones` of the sender, `one` of the first receiver and `two` of the second; a prime marks an output after its call.
use Rattle.std.specs.Prelude.{◌≡◌, Bool, cond, not, ◌&&◌, List, ◌⊎◌, ℕ, ◌+◌, ◌-◌, ◌*◌, ◌<◌, ◌≤◌, ◌^◌, ltb, eqb, length, Ok, Err}
use Rattle.lists.specs.Lists.{num, over}
use Rattle.lists.specs.Sums.{total}
use Rattle.refusal.specs.Refused.{unclear_at}
use Rattle.refusal.specs.Checks.{IsSet}
use Rattle.chain.specs.Chain.{missing_mark, tones_of}
use Rattle.tone_range.specs.Range.{HasTones}
use Rattle.block_encoder.specs.Encoding.{IsText, encode_block, encoded_into}
use Rattle.block_decoder.specs.Decoding.{lead_in, decode_block, decoded_into}
use Rattle.block_decoder.specs.declared.BlockDecoded.{BlockDecoded}
use Rattle.demands.specs.declared.Trial.{Trial}

-- ---- the damage

abbrev pub flag : Bool → ℕ
flag p = cond p 1 0

abbrev pub is_missing : List ℕ → ℕ → Bool
is_missing heard t = eqb (num heard t) missing_mark

-- a tone is heard at t that is neither missing nor the one sent
abbrev pub is_replaced : List ℕ → List ℕ → ℕ → Bool
is_replaced sent heard t = ltb t (length sent) && (not (is_missing heard t) && not (eqb (num heard t) (num sent t)))

-- document 01's u and r
unfoldable pub missing_in : List ℕ → ℕ
missing_in heard = total (length heard) (λ t. flag (is_missing heard t))

unfoldable pub replaced_in : List ℕ → List ℕ → ℕ
replaced_in sent heard = total (length heard) (λ t. flag (is_replaced sent heard t))

-- with weights up to N, what a missing tone, a replaced one and a right one add to document 02's D
unfoldable pub damage_at : ℕ → List ℕ → List ℕ → List ℕ → ℕ → ℕ
damage_at N sent heard weights t =
    cond (is_missing heard t) N
    (cond (is_replaced sent heard t) (N + num weights t)
    (N - num weights t))

unfoldable pub damage_in : ℕ → List ℕ → List ℕ → List ℕ → ℕ
damage_in N sent heard weights = total (length heard) (damage_at N sent heard weights)

-- ---- what the demand covers

-- every b from 1 to 8 and every m from 1 to 64; the second receiver hears 64 tones, each below 2^b or the missing mark; long enough means at
-- least 64 tones when sending and at least b bytes when hearing
pub record Covered (b m : ℕ) (text heard tones one two : List ℕ) : Type 0 where
  pub settings : IsSet b m
  pub codes : IsText b text
  pub damaged : HasTones (2 ^ b) heard
  pub room_sent : 64 ≤ length tones
  pub room_one : b ≤ length one
  pub room_two : b ≤ length two

-- ---- what it says

-- to give a text is to accept the block and write exactly its b codes to the first b bytes of the output
pub record Gives (b : ℕ) (text : List ℕ) (d : BlockDecoded) (out out' : List ℕ) : Type 0 where
  pub accepted : d.answer ≡ Ok b
  pub written : out' ≡ over text out

-- to refuse as unclear is refusal 10, with the place and lead of the lowest unclear character and nothing written
pub record RefusesAsUnclear (b m : ℕ) (d : BlockDecoded) (out out' : List ℕ) : Type 0 where
  pub place : ℕ
  pub inside : place < b
  pub refused : d.answer ≡ Err (unclear_at place (lead_in d.characters place))
  pub unclear : lead_in d.characters place < m
  pub lowest : (q : ℕ) → q < place → m ≤ lead_in d.characters q
  pub kept : out' ≡ out

-- of the three answers with r and u, and of the three outputs
pub record MeetsDemand3 (b m : ℕ) (text : List ℕ) (t : Trial) (tones tones' one one' two two' : List ℕ) : Type 0 where
  pub accepted : t.encoded ≡ Ok 64
  pub sent : tones' ≡ over (tones_of b text) tones
  pub first : Gives b text t.first one one'
  pub places : t.replaced + t.missing ≤ 64
  pub same : m + 2 * t.missing + 4 * t.replaced ≤ 64 → Gives b text t.second two two'
  pub no_other : 2 * t.missing + 4 * t.replaced < 64 + m → Gives b text t.second two two' ⊎ RefusesAsUnclear b m t.second two two'

-- the demand, of the definitions: for every text, mode, set lead and damage
pub record Demand3 : Type 0 where
  pub met : (b m : ℕ) (text heard tones one two : List ℕ) → Covered b m text heard tones one two
      → MeetsDemand3 b m text
      (record {
        encoded = encode_block b text (length tones);
        first = decode_block b m (tones_of b text) (length one);
        second = decode_block b m heard (length two);
        replaced = replaced_in (tones_of b text) heard;
        missing = missing_in heard;
      })
      tones (encoded_into b text tones)
      one (decoded_into b m (tones_of b text) one)
      two (decoded_into b m heard two)
