-- The word that has more than half of the total: no other has as much.
use mathlib.Core.Path.{◌≡◌, sym, ◌∙◌, ap}
use mathlib.Core.Logic.{◌≢◌}
use Prim.Native.Nat.{ℕ, zero, suc, ◌+◌, ◌*◌, ◌<◌, ◌≤◌, ◌%◌}
use native.Mathlib.Decide.{ℕ_discrete}
use native.Mathlib.Omega.{arith}
use borrow.Author.Tests.{eqb-false}
use lib.IntN.{ℤ, nat_abs}
use Rattle.lists.specs.Sums.{total}
use Rattle.walsh.specs.Words.{corr}
use Rattle.walsh.specs.Energy.{square, energy}
use Rattle.walsh.proofs.Squares.{square_less}
use Rattle.walsh.proofs.Energies.{parseval}
use Rattle.decision.specs.Decision.{decision}
use Rattle.decision.specs.Laws.{Foremost}
use Rattle.decision.specs.declared.Character.{Character}
use Rattle.decision.proofs.Choice.{decision_law, nearest}
use Rattle.decision.proofs.Parities.{parity}
use Rattle.block_decoder.specs.Decoding.{symbols_of, count_in, weighted_at}
use Rattle.energy_laws.specs.Laws.{OnlyBest, Majority}
use Rattle.energy_laws.proofs.Totals.{counts_total}

-- ---- terms of a sum

one_of : (n : ℕ) (f : ℕ → ℕ) (i : ℕ) → i < n → f i ≤ total n f
unfolding total
one_of zero f i l = absurd (omega arith)
one_of (suc n) f i l = by (one_of n f i) (ℕ_discrete i n)
  where
    by : (i < n → f i ≤ total n f) → Dec (i ≡ n) → f i ≤ total n f + f n
    by below (yes e) = omega (arith, ap f e)
    by below (no ne) = omega (arith, below (omega arith))

two_of : (n : ℕ) (f : ℕ → ℕ) (i j : ℕ) → i < n → j < n → i ≢ j → f i + f j ≤ total n f
unfolding total
two_of zero f i j l g ne = absurd (omega arith)
two_of (suc n) f i j l g ne = by (λ p q. two_of n f i j p q ne) (ℕ_discrete i n) (ℕ_discrete j n)
  where
    by : (i < n → j < n → f i + f j ≤ total n f) → Dec (i ≡ n) → Dec (j ≡ n) → f i + f j ≤ total n f + f n
    by below (yes d) (yes e) = absurd (ne (d ∙ sym e))
    by below (yes d) (no q) = omega (arith, ap f d, one_of n f j (omega arith))
    by below (no p) (yes e) = omega (arith, ap f e, one_of n f i (omega arith))
    by below (no p) (no q) = omega (arith, below (omega arith) (omega arith))

-- ---- more than half

module _ (h : ℕ → ℤ) (w : ℕ) (inside : w < 64) (half : 64 * energy h < 2 * square (corr h w)) where
  abbrev d : Character
  d = decision (corr h)

  others_smaller : (k : ℕ) → k < 64 → k ≢ w → nat_abs (corr h k) < nat_abs (corr h w)
  unfolding energy
  others_smaller k l ne = square_less (corr h k) (corr h w) (omega (arith, parseval.sum h, two_of 64 (λ c. square (corr h c)) k w l inside ne))

  -- no word that is smaller than another is chosen
  word_chosen : d.word ≡ w
  word_chosen = by (ℕ_discrete d.word w)
    where
      winner : Foremost (corr h) (λ k. k < 64) d.word
      winner = (decision_law.chosen (corr h)).winner

      by : Dec (d.word ≡ w) → d.word ≡ w
      by (yes e) = e
      by (no ne) = absurd (omega (arith, winner.greatest w inside, others_smaller d.word winner.among ne))

  lead_of_two : 2 ≤ d.lead
  lead_of_two =
      let c = decision_law.chosen (corr h) in
      let next = c.runner_up.among in
      omega (
        arith,
        nearest c,
        ap (λ (k : ℕ). nat_abs (corr h k)) word_chosen,
        others_smaller d.next next.0 (λ e. next.1 (e ∙ sym word_chosen)),
        eqb-false (d.lead % 2) 1 (parity.leads h),
      )

  only_best : OnlyBest (corr h) d w
  only_best = record { others = others_smaller; decided = word_chosen; lead = lead_of_two }

pub majority : Majority
unfolding weighted_at
majority = record {
  counts = λ h w l half. only_best h w l (omega arith);
  block = λ b tones weights q w l half. only_best (count_in b (symbols_of tones) weights q) w l (omega (arith, counts_total b tones weights q));
}
