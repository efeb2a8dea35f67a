-- The blocks that the bench sheet hears, all at b = 1: case 1, whole and with even tones turned or missing. And what it is to accept one.
use Rattle.std.specs.Prelude.{◌≡◌, cond, not, ◌&&◌, List, [], ◌∷◌, ℕ, ◌-◌, leb, replicate, Ok}
use Rattle.lists.specs.Lists.{tab, num}
use Rattle.walsh.specs.Words.{odd}
use Rattle.chain.specs.Chain.{tones_of, missing_mark}
use Rattle.block_decoder.specs.Decoding.{codes_of, lead_in}
use Rattle.block_decoder.specs.declared.BlockDecoded.{BlockDecoded}

-- code 0, as encoded
unfoldable pub case_1 : List ℕ
case_1 = tones_of 1 (0 ∷ [])

-- the same with its tones at 0, 2, .., last changed
unfoldable pub evens_to : ℕ → (ℕ → ℕ) → List ℕ
evens_to last change = tab (λ t. cond (not (odd t) && leb t last) (change (num case_1 t)) (num case_1 t)) 64

-- a turned tone is the other of the two
unfoldable pub turned_to : ℕ → List ℕ
turned_to last = evens_to last (λ tone. 1 - tone)

unfoldable pub missing_to : ℕ → List ℕ
missing_to last = evens_to last (λ tone. missing_mark)

unfoldable pub all_missing : List ℕ
all_missing = replicate 64 missing_mark

-- the block is accepted, and its character has that code and lead
pub record Accepts (d : BlockDecoded) (code lead : ℕ) : Type 0 where
  pub answer : d.answer ≡ Ok 1
  pub its_code : num (codes_of d.characters) 0 ≡ code
  pub its_lead : lead_in d.characters 0 ≡ lead
