-- All correlations of one character have the parity of the sum of its counts, and leads are even.
use mathlib.Core.Path.{◌≡◌, ◌∙◌, sym, ap}
use Prim.Native.Nat.{ℕ, ◌%◌}
use native.Mathlib.Omega.{arith}
use lib.Dec.{eqb}
use lib.IntN.{ℤ, nat_abs}
use Rattle.lists.specs.Sums.{sum}
use Rattle.lists.proofs.Sums.{abs_sum_parity, total_ext}
use Rattle.walsh.specs.Words.{minus, signed, corr}
use Rattle.decision.specs.Decision.{decision}
use Rattle.decision.specs.Laws.{Parity}
use Rattle.walsh.proofs.Signed.{abs_signed}
use Rattle.walsh.proofs.Signs.{odd_zero}
use Rattle.decision.proofs.Choice.{decision_law, nearest}

corr_parity : (h : ℕ → ℤ) (c : ℕ) → nat_abs (corr h c) % 2 ≡ nat_abs (sum 64 h) % 2
unfolding corr
corr_parity h c =
    abs_sum_parity 64 (λ t. signed (minus c t) (h t))
    ∙ ap (λ (n : ℕ). n % 2) (total_ext 64 _ _ (λ t l. abs_signed (minus c t) (h t)))
    ∙ sym (abs_sum_parity 64 h)

pub parity : Parity
parity = record {
  correlations = λ h c. ap (λ (n : ℕ). eqb n 1) (corr_parity h c);
  leads = λ h.
      let d = decision (corr h) in
      odd_zero d.lead (omega (arith, nearest (decision_law.chosen (corr h)), corr_parity h d.next, corr_parity h d.word));
}
