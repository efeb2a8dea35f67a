-- A code that is heard undamaged: its word has every count for it or against it, the other words have none over, and the decision says so.
use mathlib.Core.Path.{◌≡◌, refl, sym, ◌∙◌, ap}
use mathlib.Core.Bool.{Bool, true, false, cond, not}
use mathlib.Core.Logic.{◌≢◌}
use Prim.Native.Nat.{ℕ, suc, ◌-◌, ◌%◌, ◌<◌, ◌≤◌}
use native.Mathlib.Decide.{ℕ_discrete}
use native.Mathlib.Omega.{arith}
use borrow.Author.Tests.{eq-eqb, ne_eqb, le-leb, lt-leb, ltb-true, ltb-false}
use lib.Dec.{leb, ltb, eqb}
use lib.IntN.{ℤ, pos, negsuc, nat_abs, ◌-ℤ◌}
use Rattle.lists.proofs.Integers.{sub_cases}
use Rattle.walsh.specs.Words.{signed, corr}
use Rattle.walsh.proofs.Signed.{signed_twice}
use Rattle.decision.specs.Decision.{negative, code_of, decision}
use Rattle.decision.specs.Laws.{Foremost}
use Rattle.decision.proofs.Choice.{decision_law, same_character}
use Rattle.damage.specs.Damage.{damage}
use Rattle.damage.proofs.Drift.{damage_law}
use Rattle.demands.specs.Laws.{undamaged}
use Rattle.demands.proofs.Hearings.{word_of, sign_of, word_below, code_of_word}

no_magnitude : (x : ℤ) → nat_abs x ≡ 0 → x ≡ pos 0
no_magnitude (pos n) e = ap pos e
no_magnitude (negsuc n) e = absurd (omega arith)

no_distance : (x : ℤ) (m : ℕ) → nat_abs (x -ℤ pos (suc m)) ≡ 0 → x ≡ pos (suc m)
no_distance (pos n) m e =
    sub_cases (λ z. nat_abs z ≡ 0 → pos n ≡ pos (suc m)) n (suc m) (λ l k. absurd (omega arith)) (λ l k. ap pos (omega arith)) e
no_distance (negsuc n) m e = absurd (omega arith)

-- ---- word c sent with sign s

module _ (c : ℕ) (s : Bool) (h : ℕ → ℤ) (inside : c < 64) (whole : damage 1 c s h ≡ 0) where
  abbrev next : ℕ
  next = cond (eqb c 0) 1 0

  others : (d : ℕ) → d < 64 → d ≢ c → nat_abs (corr h d) ≡ 0
  others d l ne = omega (arith, (damage_law.moved 1 c s h inside).other d l ne)

  own : corr h c ≡ signed s (pos 64)
  own =
      let all : signed s (corr h c) ≡ pos 64 = no_distance (signed s (corr h c)) 63 (omega (arith, (damage_law.moved 1 c s h inside).own)) in
      sym (signed_twice s (corr h c)) ∙ ap (signed s) all

  sized : (t : Bool) → nat_abs (signed t (pos 64)) ≡ 64
  sized true = refl
  sized false = refl

  signs : (t : Bool) → negative (signed t (pos 64)) ≡ t
  signs true = refl
  signs false = refl

  winner : Foremost (corr h) (λ k. k < 64) c
  winner = record {
    among = inside;
    greatest = λ k l. by k l (ℕ_discrete k c);
    lowest = λ k l g. omega (arith, others k l (λ e. omega arith), ap nat_abs own, sized s);
  }
    where
      by : (k : ℕ) → k < 64 → Dec (k ≡ c) → nat_abs (corr h k) ≤ nat_abs (corr h c)
      by k l (yes e) = omega (arith, ap (λ (j : ℕ). nat_abs (corr h j)) e)
      by k l (no ne) = omega (arith, others k l ne)

  next_other : (next < 64) × (next ≢ c)
  next_other = by (ℕ_discrete c 0)
    where
      by : Dec (c ≡ 0) → (next < 64) × (next ≢ c)
      by (yes e) = rw (eq-eqb c 0 e) (omega arith, λ f. omega arith)
      by (no ne) = rw (ne_eqb c 0 ne) (omega arith, λ f. ne (sym f))

  next_lowest : (k : ℕ) → k ≢ c → k < next → ⊥
  next_lowest k ne l = by (ℕ_discrete c 0) l
    where
      by : Dec (c ≡ 0) → k < next → ⊥
      by (yes e) g = ne (let low : k < 1 = rw (eq-eqb c 0 e) at g in omega arith)
      by (no nz) g = let low : k < 0 = rw (ne_eqb c 0 nz) at g in omega arith

  runner_up : Foremost (corr h) (λ k. (k < 64) × (k ≢ c)) next
  runner_up = record {
    among = next_other;
    greatest = λ k p. omega (arith, others k p.0 p.1);
    lowest = λ k p l. absurd (next_lowest k p.1 l);
  }

  pub as_sent : record { code = code_of c s; lead = 64; word = c; correlation = signed s (pos 64); next = next; next_correlation = pos 0 } ≡ decision (corr h)
  as_sent =
      decision_law.only (corr h) _ record {
        winner = winner;
        runner_up = runner_up;
        correlation = sym own;
        next_correlation = sym (no_magnitude (corr h next) (others next next_other.0 next_other.1));
        code = ap (code_of c) (sym (signs s));
        lead = sym (sized s);
      }

-- ---- code v

module _ (v : ℕ) (below : v < 128) where
  word_is : word_of v ≡ v % 64
  word_is = by (ltb v 64) refl
    where
      by : (t : Bool) → ltb v 64 ≡ t → cond t v (v - 64) ≡ v % 64
      by true e = omega (arith, ltb-true v 64 e)
      by false e = omega (arith, ltb-false v 64 e)

  sign_is : sign_of v ≡ leb 64 v
  sign_is = by (ltb v 64) refl
    where
      by : (t : Bool) → ltb v 64 ≡ t → not t ≡ leb 64 v
      by true e = sym (lt-leb 64 v (ltb-true v 64 e))
      by false e = sym (le-leb 64 v (ltb-false v 64 e))

  pub heard_undamaged : (h : ℕ → ℤ) → damage 1 (word_of v) (sign_of v) h ≡ 0 → decision (corr h) ≡ undamaged v
  heard_undamaged h e =
      sym (as_sent (word_of v) (sign_of v) h (word_below v below) e)
      ∙ same_character (code_of_word v) refl word_is (ap (λ (s : Bool). signed s (pos 64)) sign_is) (ap (λ (w : ℕ). cond (eqb w 0) 1 0) word_is) refl
