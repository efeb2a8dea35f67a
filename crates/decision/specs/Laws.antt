-- The laws of the decision. Each is the promise of the function of the same name in src/laws.rt.
use Rattle.std.specs.Prelude.{◌≡◌, false, ◌≢◌, ℕ, ◌+◌, ◌<◌, ◌≤◌, ℤ, nat_abs}
use Rattle.lists.specs.Sums.{sum}
use Rattle.walsh.specs.Words.{odd, corr}
use Rattle.decision.specs.Decision.{negative, code_of, decision}
use Rattle.decision.specs.declared.Character.{Character}

-- Of the words that Among holds of, w has the greatest magnitude, and is the lowest-numbered that has it.
pub record Foremost (r : ℕ → ℤ) (Among : ℕ → Type 0) (w : ℕ) : Type 0 where
  pub among : Among w
  pub greatest : (k : ℕ) → Among k → nat_abs (r k) ≤ nat_abs (r w)
  pub lowest : (k : ℕ) → Among k → k < w → nat_abs (r k) < nat_abs (r w)

-- What a decision on the correlations r says.
pub record Chosen (r : ℕ → ℤ) (d : Character) : Type 0 where
  pub winner : Foremost r (λ k. k < 64) d.word
  pub runner_up : Foremost r (λ k. (k < 64) × (k ≢ d.word)) d.next
  pub correlation : d.correlation ≡ r d.word
  pub next_correlation : d.next_correlation ≡ r d.next
  pub code : d.code ≡ code_of d.word (negative d.correlation)
  pub lead : nat_abs d.next_correlation + d.lead ≡ nat_abs d.correlation

-- The decision says so, and no other record does.
pub record Decision : Type 0 where
  pub chosen : (r : ℕ → ℤ) → Chosen r (decision r)
  pub only : (r : ℕ → ℤ) (d : Character) → Chosen r d → d ≡ decision r

-- All correlations of one character have the parity of the sum of its counts, so its lead is even.
pub record Parity : Type 0 where
  pub correlations : (h : ℕ → ℤ) (c : ℕ) → odd (nat_abs (corr h c)) ≡ odd (nat_abs (sum 64 h))
  pub leads : (h : ℕ → ℤ) → odd (decision (corr h)).lead ≡ false
