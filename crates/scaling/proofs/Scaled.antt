-- The law of scaling: correlations grow with the counts, and the order of their magnitudes, by which the decision is made, stays.
use mathlib.Core.Path.{◌≡◌, sym, ◌∙◌, ap}
use Prim.Native.Nat.{ℕ, ◌*◌, ◌≤◌}
use native.Mathlib.Nat.{mul-add, mul-le-mul_left, mul-lt-mul_of_pos_left}
use lib.IntN.{ℤ, pos, nat_abs, ◌*ℤ◌}
use Rattle.lists.proofs.Sums.{sum_ext}
use Rattle.walsh.specs.Words.{minus, signed, corr}
use Rattle.decision.specs.Decision.{code_of, decision}
use Rattle.decision.specs.Laws.{Foremost}
use Rattle.decision.proofs.Choice.{decision_law}
use Rattle.scaling.specs.Laws.{Scaling}
use Rattle.scaling.specs.Scaled.{times_character}
use Rattle.scaling.proofs.Products.{abs_times, negative_times, times_signed, sum_times}

corr_times : (k : ℕ) (h : ℕ → ℤ) (c : ℕ) → corr (λ t. pos k *ℤ h t) c ≡ pos k *ℤ corr h c
unfolding corr
corr_times k h c =
    sum_ext 64 _ _ (λ t l. sym (times_signed k (minus c t) (h t))) ∙ sum_times k 64 (λ t. signed (minus c t) (h t))

-- correlations s that are k times those of r
module _ (k : ℕ) (low : 1 ≤ k) (r s : ℕ → ℤ) (larger : (c : ℕ) → s c ≡ pos k *ℤ r c) where
  magnitude : (c : ℕ) → nat_abs (s c) ≡ k * nat_abs (r c)
  magnitude c = ap nat_abs (larger c) ∙ abs_times k (r c)

  same_foremost : (Among : ℕ → Type 0) (w : ℕ) → Foremost r Among w → Foremost s Among w
  same_foremost Among w h = record {
    among = h.among;
    greatest = λ j p. rw (magnitude j, magnitude w) (mul-le-mul_left k (h.greatest j p));
    lowest = λ j p l. rw (magnitude j, magnitude w) (mul-lt-mul_of_pos_left (h.lowest j p l) low);
  }

  decision_times : decision s ≡ times_character k (decision r)
  decision_times =
      let d = decision r in
      let h = decision_law.chosen r in
      sym
      (decision_law.only s (times_character k d) record {
        winner = same_foremost _ _ h.winner;
        runner_up = same_foremost _ _ h.runner_up;
        correlation = ap (λ (x : ℤ). pos k *ℤ x) h.correlation ∙ sym (larger d.word);
        next_correlation = ap (λ (x : ℤ). pos k *ℤ x) h.next_correlation ∙ sym (larger d.next);
        code = h.code ∙ ap (code_of d.word) (sym (negative_times k d.correlation low));
        lead =
            rw (abs_times k d.next_correlation, abs_times k d.correlation, ← mul-add k (nat_abs d.next_correlation) d.lead)
            (ap (λ (n : ℕ). k * n) h.lead);
      })

pub scaling_law : Scaling
scaling_law = record {
  correlations = corr_times;
  decisions = λ k h low. decision_times k low (corr h) (corr (λ t. pos k *ℤ h t)) (corr_times k h);
}
