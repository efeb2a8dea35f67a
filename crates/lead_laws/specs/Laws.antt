-- The law of raising the set lead: document 02, order 13. It is the promise of the function of the same name in src/laws.rt.
use Rattle.std.specs.Prelude.{List, ◌⊎◌, ◌≡◌, ℕ, ◌*◌, ◌≤◌, length, Ok}
use Rattle.block_decoder.specs.Decoding.{heard_block, heard_block_into}
use Rattle.block_decoder.specs.declared.BlockDecoded.{BlockDecoded}
use Rattle.demands.specs.Demand.{RefusesAsUnclear}

-- A block heard at m and at a greater m', with weights from 0 to N: N is 1 in plain hearing, with weights `plain`, and 15 with weights.
module _ (N b m m' : ℕ) (tones weights out : List ℕ) where
  abbrev pub lower : BlockDecoded
  lower = heard_block N b m tones weights (length out)

  abbrev pub higher : BlockDecoded
  higher = heard_block N b m' tones weights (length out)

  -- answer, records and output are the same
  pub record Stays : Type 0 where
    pub answer : higher ≡ lower
    pub output : heard_block_into N b m' tones weights out ≡ heard_block_into N b m tones weights out

  -- the answer is a refusal as unclear, with the same records and nothing written
  pub record BecomesUnclear : Type 0 where
    pub unclear : RefusesAsUnclear b m' higher out (heard_block_into N b m' tones weights out)
    pub records : higher.characters ≡ lower.characters

  -- a text at m' is the text at m, and what is unclear at m is unclear at m'
  pub record Raised : Type 0 where
    pub either : Stays ⊎ BecomesUnclear
    pub same_text : (n : ℕ) → higher.answer ≡ Ok n → Stays
    pub still_unclear : RefusesAsUnclear b m lower out (heard_block_into N b m tones weights out)
        → RefusesAsUnclear b m' higher out (heard_block_into N b m' tones weights out)

-- Raising m within its range leaves a block's answer as it is, or turns it into a refusal as unclear.
pub record RaisedLead : Type 0 where
  pub raised : (N b m m' : ℕ) (tones weights out : List ℕ) → 1 ≤ m → m ≤ m' → m' ≤ 64 * N → Raised N b m m' tones weights out
