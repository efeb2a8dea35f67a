-- The laws of the transform. Each is the promise of the function of the same name in src/laws.rt.
use Rattle.std.specs.Prelude.{◌≡◌, ℕ, ◌*◌, ◌<◌, ℤ}
use Rattle.walsh.specs.Words.{corr}
use Rattle.walsh.specs.Transform.{butterflies}
use Rattle.walsh.specs.Energy.{energy}

-- Six steps of the fast transform give the correlation with each word.
pub record Transform : Type 0 where
  pub six_steps : (h : ℕ → ℤ) (c : ℕ) → c < 64 → butterflies 6 h c ≡ corr h c

-- Parseval: for any counts, the squares of the 64 correlations add up to 64 times the sum of the squared counts.
pub record Parseval : Type 0 where
  pub sum : (h : ℕ → ℤ) → energy (corr h) ≡ 64 * energy h
