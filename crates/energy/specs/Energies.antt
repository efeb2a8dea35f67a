-- Document 02, order 13: for each character of a block the sum of its squared correlations, the total that it is compared with, and what the
-- entries answer. Checks: 1, 7, 8, 14. Plain hearing is hearing with weight 1 throughout, so that 14 does not occur.
use Rattle.std.specs.Prelude.{cond, not, List, ℕ, ◌*◌, ◌^◌, ltb, eqb, length, replicate, Ok, Err}
use Rattle.lists.specs.Lists.{tab, num, over}
use Rattle.lists.specs.Sums.{total}
use Rattle.refusal.specs.Refused.{refused_at}
use Rattle.refusal.specs.Checks.{is_mode}
use Rattle.walsh.specs.Words.{corr}
use Rattle.walsh.specs.Energy.{energy}
use Rattle.chain.specs.Chain.{missing_mark}
use Rattle.tone_range.specs.Range.{first_bad_tone}
use Rattle.weight_range.specs.Range.{first_bad_weight}
use Rattle.block_decoder.specs.Decoding.{plain, symbols_of, count_in}
use Rattle.energy.specs.declared.Energies.{Energies}
use Rattle.refusal.specs.declared.Reason.{Reason}

-- the sum of the squares of the 64 correlations that character q is decided by
unfoldable pub energy_at : ℕ → List ℕ → List ℕ → ℕ → ℕ
energy_at b tones weights q = energy (corr (count_in b (symbols_of tones) weights q))

-- the squared weight of the tone at t; a missing one counts 0
unfoldable pub squared_weight : List ℕ → List ℕ → ℕ → ℕ
squared_weight tones weights t = cond (eqb (num tones t) missing_mark) 0 (num weights t * num weights t)

-- 64 times the sum of the squared weights
unfoldable pub total_of : List ℕ → List ℕ → ℕ
total_of tones weights = 64 * total 64 (squared_weight tones weights)

unfoldable pub refused : Reason → ℕ → Energies
refused reason place = record { answer = Err (refused_at reason place); sums = replicate 8 0 }

-- the energies of b characters, and 0 after them
unfoldable pub summed : ℕ → List ℕ → List ℕ → Energies
summed b tones weights = record { answer = Ok (total_of tones weights); sums = over (tab (energy_at b tones weights) b) (replicate 8 0) }

-- the answer where weights are 0 to N
unfoldable pub heard_energies : ℕ → ℕ → List ℕ → List ℕ → Energies
heard_energies N b tones weights =
    cond (not (is_mode b)) (refused Reason.Mode 0)
    (cond (not (eqb (length tones) 64)) (refused Reason.ToneCount 0)
    (cond (not (eqb (length weights) 64)) (refused Reason.ToneCount 0)
    (cond (ltb (first_bad_tone (2 ^ b) tones) 64) (refused Reason.Tone (first_bad_tone (2 ^ b) tones))
    (cond (ltb (first_bad_weight N weights) 64) (refused Reason.Weight (first_bad_weight N weights))
    (summed b tones weights)))))

-- plain hearing
abbrev pub block_energies : ℕ → List ℕ → Energies
block_energies b tones = heard_energies 1 b tones plain

-- hearing with weights from 0 to 15
abbrev pub weighted_energies : ℕ → List ℕ → List ℕ → Energies
weighted_energies b tones weights = heard_energies 15 b tones weights
