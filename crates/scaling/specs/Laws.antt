-- The law of scaling. It is the promise of the function of the same name in src/laws.rt.
use Rattle.std.specs.Prelude.{◌≡◌, ℕ, ◌≤◌, ℤ, pos, ◌*ℤ◌}
use Rattle.walsh.specs.Words.{corr}
use Rattle.decision.specs.Decision.{decision}
use Rattle.scaling.specs.Scaled.{times_character}

-- Counts k times as large have correlations k times as large, and lead to the same decision, with lead and correlations k times as large.
pub record Scaling : Type 0 where
  pub correlations : (k : ℕ) (h : ℕ → ℤ) (c : ℕ) → corr (λ t. pos k *ℤ h t) c ≡ pos k *ℤ corr h c
  pub decisions : (k : ℕ) (h : ℕ → ℤ) → 1 ≤ k → decision (corr (λ t. pos k *ℤ h t)) ≡ times_character k (decision (corr h))
