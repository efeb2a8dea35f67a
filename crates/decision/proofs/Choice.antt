-- What the decision means, and that the meaning leaves no second decision.
use mathlib.Core.Path.{◌≡◌, refl, sym, ◌∙◌, ap, subst}
use mathlib.Core.Logic.{◌≢◌, ⊎_elim}
use Prim.Native.Nat.{ℕ, zero, suc, ◌+◌, ◌-◌, ◌<◌, ◌≤◌}
use native.Mathlib.Decide.{dec_lt}
use native.Mathlib.Nat.{eq-or-lt_of_le, le_of_suc-le-suc}
use native.Mathlib.Omega.{arith}
use lib.Dec.{ltb, ltb→lt, nltb→le}
use lib.IntN.{ℤ, nat_abs}
use Rattle.lists.proofs.Integers.{cond_cases}
use Rattle.walsh.specs.Words.{corr}
use Rattle.walsh.proofs.Signed.{corr_ext}
use Rattle.decision.specs.Decision.{better, best, other, runner_up, negative, code_of, decision_for, decision}
use Rattle.decision.specs.Laws.{Foremost, Chosen, Decision}
use Rattle.decision.specs.declared.Character.{Character}

-- what holds at each place below n, and at n, holds at each below suc n
pub below_suc : (P : ℕ → Type 0) (n : ℕ) → ((k : ℕ) → k < n → P k) → P n → (k : ℕ) → k < suc n → P k
below_suc P n h p k l = ⊎_elim (λ e. subst P (sym e) p) (h k) (eq-or-lt_of_le (le_of_suc-le-suc l))

pub same_character : {c c' l l' w w' v v' : ℕ} {y y' z z' : ℤ} → c ≡ c' → l ≡ l' → w ≡ w' → y ≡ y' → v ≡ v' → z ≡ z'
    → ◌≡◌ {A = Character}
    (record { code = c; lead = l; word = w; correlation = y; next = v; next_correlation = z })
    (record { code = c'; lead = l'; word = w'; correlation = y'; next = v'; next_correlation = z' })
same_character pc pl pw py pv pz =
    λ i. record { code = pc i; lead = pl i; word = pw i; correlation = py i; next = pv i; next_correlation = pz i }

-- ---- the words other than w

module _ (w : ℕ) where
  other_cases : (P : ℕ → Type 0) (k : ℕ) → (k < w → P k) → (w ≤ k → P (suc k)) → P (other w k)
  unfolding other
  other_cases P k f g = cond_cases P (ltb k w) k (suc k) (λ t. f (ltb→lt _ _ t)) (λ t. g (nltb→le _ _ t))

  other_among : (k : ℕ) → k < 63 → (other w k < 64) × (other w k ≢ w)
  other_among k l =
      other_cases (λ v. (v < 64) × (v ≢ w)) k (λ a. (omega arith, λ e. omega arith)) (λ a. (omega arith, λ e. omega arith))

  -- they keep their order
  other_ordered : (j k : ℕ) → other w j < other w k → j < k
  other_ordered j k =
      other_cases (λ x. x < other w k → j < k) j
      (λ a. other_cases (λ y. j < y → j < k) k (λ b l. l) (λ b l. omega arith))
      (λ a. other_cases (λ y. suc j < y → j < k) k (λ b l. omega arith) (λ b l. omega arith))

  -- what holds of each of them holds of every word below 64 but w
  each_other : (P : ℕ → Type 0) → w < 64 → ((j : ℕ) → j < 63 → P (other w j)) → (k : ℕ) → (k < 64) × (k ≢ w) → P k
  each_other P i h k (l, ne) = by (dec_lt k w)
    where
      by : Dec (k < w) → P k
      by (yes a) =
          let own : other w k ≡ k = other_cases (λ v. v ≡ k) k (λ b. refl) (λ b. absurd (omega arith)) in
          subst P own (h k (omega arith))
      by (no a) =
          let above : w < k = omega (arith, ne) in
          let own : other w (k - 1) ≡ k = other_cases (λ v. v ≡ k) (k - 1) (λ b. absurd (omega arith)) (λ b. omega arith) in
          subst P own (h (k - 1) (omega arith))

module _ (r : ℕ → ℤ) where
  -- ---- the better of two words, by which has the greater magnitude

  better_cases : (P : ℕ → Type 0) (b n : ℕ) → (nat_abs (r b) < nat_abs (r n) → P n) → (nat_abs (r n) ≤ nat_abs (r b) → P b) → P (better r b n)
  unfolding better
  better_cases P b n f g = cond_cases P (ltb (nat_abs (r b)) (nat_abs (r n))) n b (λ t. f (ltb→lt _ _ t)) (λ t. g (nltb→le _ _ t))

  -- ---- the best word

  first_best : Foremost r (λ k. k < 1) 0
  first_best = record {
    among = omega arith;
    greatest = below_suc (λ k. nat_abs (r k) ≤ nat_abs (r 0)) 0 (λ k l. absurd (omega arith)) (omega arith);
    lowest = λ k l g. absurd (omega arith);
  }

  next_best : (n b : ℕ) → Foremost r (λ k. k < n) b → Foremost r (λ k. k < suc n) (better r b n)
  next_best n b h =
      better_cases (Foremost r (λ k. k < suc n)) b n
      (λ g. record {
        among = omega arith;
        greatest = below_suc (λ k. nat_abs (r k) ≤ nat_abs (r n)) n (λ k l. omega (arith, h.greatest k l)) (omega arith);
        lowest = λ k l a. omega (arith, h.greatest k a);
      })
      (λ g. record {
        among = omega (arith, h.among);
        greatest = below_suc (λ k. nat_abs (r k) ≤ nat_abs (r b)) n h.greatest g;
        lowest = λ k l a. h.lowest k (omega (arith, h.among)) a;
      })

  best_foremost : (n : ℕ) → Foremost r (λ k. k < suc n) (best r (suc n))
  unfolding best
  best_foremost zero = better_cases (Foremost r (λ k. k < 1)) 0 0 (λ g. first_best) (λ g. first_best)
  best_foremost (suc n) = next_best (suc n) (best r (suc n)) (best_foremost n)

  foremost_only : (Among : ℕ → Type 0) (w v : ℕ) → Foremost r Among w → Foremost r Among v → w ≡ v
  foremost_only Among w v a b =
      let wv : nat_abs (r w) ≤ nat_abs (r v) = b.greatest w a.among in
      let vw : nat_abs (r v) ≤ nat_abs (r w) = a.greatest v b.among in
      by wv vw (dec_lt w v) (dec_lt v w)
    where
      by : nat_abs (r w) ≤ nat_abs (r v) → nat_abs (r v) ≤ nat_abs (r w) → Dec (w < v) → Dec (v < w) → w ≡ v
      by wv vw (yes l) d = absurd (omega (arith, b.lowest w a.among l))
      by wv vw (no n) (yes l) = absurd (omega (arith, a.lowest v b.among l))
      by wv vw (no n) (no m) = omega arith

-- ---- the decision

module _ (r : ℕ → ℤ) where
  abbrev pub Best : ℕ → Type 0
  Best = Foremost r (λ k. k < 64)

  abbrev pub Next : ℕ → ℕ → Type 0
  Next w = Foremost r (λ k. (k < 64) × (k ≢ w))

  pub best_is : Best (best r 64)
  best_is = best_foremost r 63

  -- the best of the others is the runner-up
  next_among : (w v : ℕ) → w < 64 → Foremost (λ k. r (other w k)) (λ k. k < 63) v → Next w (other w v)
  next_among w v i b = record {
    among = other_among w v b.among;
    greatest = each_other w (λ k. nat_abs (r k) ≤ nat_abs (r (other w v))) i b.greatest;
    lowest = each_other w (λ k. k < other w v → nat_abs (r k) < nat_abs (r (other w v))) i (λ j l g. b.lowest j l (other_ordered w j v g));
  }

  pub runner_up_is : (w : ℕ) → w < 64 → Next w (runner_up r w)
  unfolding runner_up
  runner_up_is w i = next_among w (best (λ k. r (other w k)) 63) i (best_foremost (λ k. r (other w k)) 62)

  chosen_as : (w v : ℕ) → Best w → Next w v → Chosen r (decision_for r w v)
  unfolding decision_for
  chosen_as w v b n = record {
    winner = b;
    runner_up = n;
    correlation = refl;
    next_correlation = refl;
    code = refl;
    lead = omega (arith, b.greatest v n.among.0);
  }

  chosen_for : (d : Character) → Chosen r d → d ≡ decision_for r d.word d.next
  unfolding decision_for
  chosen_for d h =
      same_character
      (h.code ∙ ap (λ (z : ℤ). code_of d.word (negative z)) h.correlation)
      (omega (arith, h.lead, ap nat_abs h.correlation, ap nat_abs h.next_correlation))
      refl h.correlation refl h.next_correlation

  -- a best word and its runner-up are those of the decision
  pub decided : (w v : ℕ) → Best w → Next w v → decision_for r w v ≡ decision r
  unfolding decision
  decided w v b n =
      ap (decision_for r w) (foremost_only r (λ k. (k < 64) × (k ≢ w)) v (runner_up r w) n (runner_up_is w b.among))
      ∙ ap (λ (k : ℕ). decision_for r k (runner_up r k)) (foremost_only r (λ k. k < 64) w (best r 64) b best_is)

pub decision_law : Decision
unfolding decision
decision_law = record {
  chosen = λ r. chosen_as r (best r 64) (runner_up r (best r 64)) (best_is r) (runner_up_is r (best r 64) (best_is r).among);
  only = λ r d h. chosen_for r d h ∙ decided r d.word d.next h.winner h.runner_up;
}

-- ---- the lead, by the correlations

module _ {r : ℕ → ℤ} {d : Character} (h : Chosen r d) where
  -- the runner-up is as near as the lead says
  pub nearest : nat_abs (r d.next) + d.lead ≡ nat_abs (r d.word)
  nearest = omega (arith, h.lead, ap nat_abs h.correlation, ap nat_abs h.next_correlation)

  -- and no other word is nearer
  pub ahead : (k : ℕ) → k < 64 → k ≢ d.word → nat_abs (r k) + d.lead ≤ nat_abs (r d.word)
  ahead k l ne = omega (arith, nearest, h.runner_up.greatest k (l, ne))

-- ---- the decision rests on the 64 correlations alone, and so on the 64 counts

foremost_ext : (r s : ℕ → ℤ) (Among : ℕ → Type 0) → ((k : ℕ) → Among k → nat_abs (r k) ≡ nat_abs (s k)) → (w : ℕ) → Foremost r Among w → Foremost s Among w
foremost_ext r s Among e w h = record {
  among = h.among;
  greatest = λ k p. omega (arith, h.greatest k p, e k p, e w h.among);
  lowest = λ k p l. omega (arith, h.lowest k p l, e k p, e w h.among);
}

pub decision_ext : (r s : ℕ → ℤ) → ((k : ℕ) → k < 64 → r k ≡ s k) → decision r ≡ decision s
decision_ext r s e =
    let h = decision_law.chosen r in
    decision_law.only s (decision r) record {
      winner = foremost_ext r s _ (λ k l. ap nat_abs (e k l)) _ h.winner;
      runner_up = foremost_ext r s _ (λ k p. ap nat_abs (e k p.0)) _ h.runner_up;
      correlation = h.correlation ∙ e _ h.winner.among;
      next_correlation = h.next_correlation ∙ e _ h.runner_up.among.0;
      code = h.code;
      lead = h.lead;
    }

pub counts_decide : (f g : ℕ → ℤ) → ((t : ℕ) → t < 64 → f t ≡ g t) → decision (corr f) ≡ decision (corr g)
counts_decide f g e = decision_ext (corr f) (corr g) (λ c h. corr_ext f g e c)
