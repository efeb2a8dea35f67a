-- Document 01's bench sheet: what a row says of the definitions that the entries equal, and the rows of its starred cases.
use Rattle.std.specs.Prelude.{◌≡◌, false, List, [], ◌∷◌, ℕ, ◌+◌, ◌*◌, ◌≤◌, Float, length, take, replicate, Ok, Err}
use Rattle.std.specs.Float.Ieee.Exact.{HasValue}
use Rattle.refusal.specs.Refused.{unclear_at}
use Rattle.chain.specs.Tables.{symbol_of}
use Rattle.block_encoder.specs.Encoding.{encoded_into}
use Rattle.block_decoder.specs.Decoding.{lead_in, characters_of, decode_block}
use Rattle.demands.specs.Demand.{replaced_in, missing_in}
use Rattle.band.specs.Frequencies.{frequency_of}
use Rattle.bench_sheet.specs.Heard.{case_1, turned_to, missing_to, all_missing, Accepts}

-- ---- rows

infixr 5 b=◌codes◌first_tones◌ tone◌is_symbol◌ ◌r=◌u=◌ ◌m=◌accepts_code◌lead◌ ◌m=◌refuses_10_place◌lead◌ ◌at_every_m_refuses_10_place◌lead◌ ◌has_lead◌ ◌just_beyond_demand_3_at_m=◌ b=◌B◌centre◌tone◌at◌thousandths
pub data Row : Type 0 where
  b=◌codes◌first_tones◌ : ℕ → List ℕ → List ℕ → Row
  tone◌is_symbol◌ : ℕ → ℕ → Row
  ◌r=◌u=◌ : List ℕ → ℕ → ℕ → Row
  ◌m=◌accepts_code◌lead◌ : List ℕ → ℕ → ℕ → ℕ → Row
  ◌m=◌refuses_10_place◌lead◌ : List ℕ → ℕ → ℕ → ℕ → Row
  ◌at_every_m_refuses_10_place◌lead◌ : List ℕ → ℕ → ℕ → Row
  ◌has_lead◌ : List ℕ → ℕ → Row
  ◌just_beyond_demand_3_at_m=◌ : List ℕ → ℕ → Row
  b=◌B◌centre◌tone◌at◌thousandths : ℕ → ℕ → ℕ → ℕ → ℕ → Row

-- ---- what they say, a block being heard at b = 1

abbrev pub Holds : Row → Type 0
Holds (b= b codes vs first_tones ts) = take (length ts) (encoded_into b vs (replicate 64 0)) ≡ ts
Holds (tone g is_symbol s) = symbol_of g ≡ s
Holds (heard r= r u= u) = (replaced_in case_1 heard ≡ r) × (missing_in heard ≡ u)
Holds (heard m= m accepts_code v lead l) = Accepts (decode_block 1 m heard 1) v l
Holds (heard m= m refuses_10_place q lead l) = (decode_block 1 m heard 1).answer ≡ Err (unclear_at q l)
Holds (heard at_every_m_refuses_10_place q lead l) = (m : ℕ) → 1 ≤ m → m ≤ 64 → (decode_block 1 m heard 1).answer ≡ Err (unclear_at q l)
Holds (heard has_lead l) = lead_in (characters_of 1 heard) 0 ≡ l
Holds (heard just_beyond_demand_3_at_m= m) = 2 * missing_in heard + 4 * replaced_in case_1 heard ≡ 64 + m
Holds (b= b B w centre c tone n at k thousandths) = (x : Float) × (frequency_of b w c n ≡ Ok x) × HasValue x false k 1000

abbrev pub Each : List Row → Type 0
Each [] = Unit {0}
Each (row ∷ rows) = Holds row × Each rows

-- ---- the starred cases, each row with its number
abbrev pub starred : List Row
starred =
    (b= 1 codes (0 ∷ []) first_tones (0 ∷ 0 ∷ 1 ∷ 1 ∷ 0 ∷ 1 ∷ 1 ∷ 1 ∷ []))  -- 1
    ∷ (b= 1 codes (64 ∷ []) first_tones (1 ∷ 1 ∷ 0 ∷ 0 ∷ 1 ∷ 0 ∷ 0 ∷ 0 ∷ []))  -- 2
    ∷ (b= 1 codes (1 ∷ []) first_tones (1 ∷ 0 ∷ 0 ∷ 1 ∷ 1 ∷ 1 ∷ 0 ∷ 1 ∷ []))  -- 3
    ∷ (b= 2 codes (0 ∷ 0 ∷ []) first_tones (3 ∷ 1 ∷ 1 ∷ 2 ∷ 0 ∷ 2 ∷ []))  -- 4
    ∷ (tone 3 is_symbol 2)  -- 5
    ∷ (tone 4 is_symbol 7)  -- 5
    ∷ (case_1 m= 64 accepts_code 0 lead 64)  -- 6
    ∷ (turned_to 28 r= 15 u= 0)  -- 7
    ∷ (turned_to 28 m= 4 accepts_code 0 lead 4)  -- 7
    ∷ (turned_to 28 m= 5 refuses_10_place 0 lead 4)  -- 7
    ∷ (turned_to 30 r= 16 u= 0)  -- 8
    ∷ (turned_to 30 m= 1 refuses_10_place 0 lead 0)  -- 8
    ∷ (missing_to 60 r= 0 u= 31)  -- 9
    ∷ (missing_to 60 has_lead 2)  -- 9
    ∷ (missing_to 62 has_lead 0)  -- 9
    ∷ (turned_to 62 r= 32 u= 0)  -- 10
    ∷ (turned_to 62 m= 64 accepts_code 1 lead 64)  -- 10
    ∷ (turned_to 62 just_beyond_demand_3_at_m= 64)  -- 10
    ∷ (all_missing at_every_m_refuses_10_place 0 lead 0)  -- 11
    ∷ (b= 5 B 1000 centre 1500 tone 0 at 1015625 thousandths)  -- 12
    ∷ (b= 5 B 1000 centre 1500 tone 31 at 1984375 thousandths)  -- 12
    ∷ []

-- Every row holds.
pub record Starred : Type 0 where
  pub each : Each starred
