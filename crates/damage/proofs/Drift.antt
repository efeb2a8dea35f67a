-- The damage law: no correlation moves by more than the damage, so little damage leaves the decision what was sent.
use mathlib.Core.Path.{◌≡◌, refl, sym, ◌∙◌, ap, ap₂}
use mathlib.Core.Bool.{Bool, true, false}
use mathlib.Core.Logic.{◌≢◌}
use Prim.Native.Nat.{ℕ, zero, suc, ◌+◌, ◌*◌, ◌<◌, ◌≤◌}
use native.Mathlib.Decide.{ℕ_discrete}
use native.Mathlib.Omega.{arith}
use lib.IntN.{ℤ, pos, negsuc, nat_abs, ◌-ℤ◌, +ℤ_idr, pos-*ℤ-pos}
use Rattle.lists.specs.Sums.{sum, total}
use Rattle.lists.proofs.Integers.{sub_cases}
use Rattle.lists.proofs.Sums.{sum_ext, sum_sub, sum_const, abs_sum, total_ext}
use Rattle.walsh.specs.Words.{minus, signed, corr}
use Rattle.decision.specs.Decision.{negative, code_of, decision}
use Rattle.damage.specs.Damage.{sent, damage}
use Rattle.decision.specs.Laws.{Chosen}
use Rattle.decision.specs.declared.Character.{Character}
use Rattle.damage.specs.Laws.{Moved, Withstands, Damage}
use Rattle.walsh.proofs.Signed.{abs_signed, signed_sub, signed_twice, sum_signed}
use Rattle.walsh_laws.proofs.Orthogonal.{orthogonality}
use Rattle.decision.proofs.Choice.{decision_law, nearest, ahead}

-- ---- a number y that is at most D away from M

near_large : (y : ℤ) (M D : ℕ) → nat_abs (y -ℤ pos M) ≤ D → M ≤ nat_abs y + D
near_large y zero D h = omega arith
near_large (pos a) (suc m) D h =
    sub_cases (λ z. nat_abs z ≤ D → suc m ≤ a + D) a (suc m) (λ l k. omega arith) (λ l k. omega arith) h
near_large (negsuc a) (suc m) D h = omega arith

near_negative : (a M D : ℕ) → nat_abs (negsuc a -ℤ pos M) ≤ D → suc a + M ≤ D
near_negative a zero D h = omega (arith, ap nat_abs (+ℤ_idr (negsuc a)))
near_negative a (suc m) D h = omega arith

-- a number on the wrong side of 0 is far from a positive one
sign_near : (s : Bool) (x : ℤ) (M D : ℕ) → nat_abs (signed s x -ℤ pos M) ≤ D → 1 ≤ nat_abs x → D < nat_abs x + M → negative x ≡ s
sign_near false (pos a) M D h p l = refl
sign_near false (negsuc a) M D h p l = absurd (omega (arith, near_negative a M D h))
sign_near true (pos zero) M D h p l = absurd (omega arith)
sign_near true (pos (suc a)) M D h p l = absurd (omega (arith, near_negative a M D h))
sign_near true (negsuc a) M D h p l = refl

equal : (a b : ℕ) → (a ≢ b → ⊥) → a ≡ b
equal a b f = elim (ℕ_discrete a b) [ yes e ↦ e | no n ↦ absurd (f n) ]

module _ (N c : ℕ) (s : Bool) (h : ℕ → ℤ) where
  drift : (d : ℕ) → nat_abs (corr h d -ℤ corr (sent N c s) d) ≤ damage N c s h
  unfolding corr damage
  drift d =
      let e : sum 64 (λ t. signed (minus d t) (h t -ℤ sent N c s t)) ≡ corr h d -ℤ corr (sent N c s) d =
      sum_ext 64 _ _ (λ t l. signed_sub (minus d t) (h t) (sent N c s t)) ∙ sum_sub 64 _ _ in
      let f : total 64 (λ t. nat_abs (signed (minus d t) (h t -ℤ sent N c s t))) ≡ damage N c s h =
      total_ext 64 _ _ (λ t l. abs_signed (minus d t) (h t -ℤ sent N c s t)) in
      omega (arith, ap nat_abs e, abs_sum 64 (λ t. signed (minus d t) (h t -ℤ sent N c s t)))

  sent_other : (d : ℕ) → c < 64 → d < 64 → d ≢ c → corr (sent N c s) d ≡ pos 0
  unfolding corr sent
  sent_other d hc hd ne = orthogonality.different d c (signed s (pos N)) hd hc ne

  sent_own : corr (sent N c s) c ≡ signed s (pos (64 * N))
  unfolding corr sent
  sent_own =
      sum_ext 64 _ _ (λ t l. signed_twice (minus c t) (signed s (pos N)))
      ∙ sum_signed 64 s (λ t. pos N)
      ∙ ap (signed s) (sum_const 64 (pos N) ∙ pos-*ℤ-pos 64 N)

  moved : c < 64 → Moved N c s h
  moved hc = record {
    other = λ d hd ne. omega (arith, drift d, ap nat_abs (ap (λ (z : ℤ). corr h d -ℤ z) (sent_other d hc hd ne) ∙ +ℤ_idr (corr h d)));
    own =
        let e : signed s (corr h c -ℤ corr (sent N c s) c) ≡ signed s (corr h c) -ℤ pos (64 * N) =
        signed_sub s (corr h c) (corr (sent N c s) c)
        ∙ ap (λ (z : ℤ). signed s (corr h c) -ℤ z) (ap (signed s) sent_own ∙ signed_twice s (pos (64 * N))) in
        omega (arith, drift c, ap nat_abs e, abs_signed s (corr h c -ℤ corr (sent N c s) c));
  }

  -- the sent word keeps what the damage leaves of 64 * N
  own_large : c < 64 → 64 * N ≤ nat_abs (corr h c) + damage N c s h
  own_large hc = omega (arith, near_large (signed s (corr h c)) (64 * N) (damage N c s h) (moved hc).own, abs_signed s (corr h c))

  module _ (m : ℕ) (hc : c < 64) (hm : 1 ≤ m) (choice : Chosen (corr h) (decision (corr h))) where
    abbrev d : Character
    d = decision (corr h)

    -- the code is the sent one, if the word is and its magnitude with 64 * N exceeds the damage
    code_kept : d.word ≡ c → 1 ≤ nat_abs (corr h c) → damage N c s h < nat_abs (corr h c) + 64 * N → d.code ≡ code_of c s
    code_kept e p l =
        choice.code
        ∙ ap₂ code_of e
        (ap negative choice.correlation ∙ ap (λ (k : ℕ). negative (corr h k)) e ∙ sign_near s (corr h c) (64 * N) (damage N c s h) (moved hc).own p l)

    withstands : Withstands N c s h m
    withstands =
        let w = d.word in
        let large : 64 * N ≤ nat_abs (corr h c) + damage N c s h = own_large hc in
        let near : nat_abs (corr h d.next) + d.lead ≡ nat_abs (corr h w) = nearest choice in
        let rival = choice.runner_up.among in
        record {
          decided = λ g.
              let e : w ≡ c = equal w c (λ ne. omega (arith, (moved hc).other w choice.winner.among ne, choice.winner.greatest c hc)) in
              let own : nat_abs (corr h w) ≡ nat_abs (corr h c) = ap (λ (k : ℕ). nat_abs (corr h k)) e in
              (code_kept e (omega arith) (omega arith), omega (arith, (moved hc).other d.next rival.0 (λ f. rival.1 (f ∙ sym e))));
          no_other = λ g l.
              let e : w ≡ c = equal w c (λ ne. omega (arith, (moved hc).other w choice.winner.among ne, ahead choice c hc (λ f. ne (sym f)))) in
              let own : nat_abs (corr h w) ≡ nat_abs (corr h c) = ap (λ (k : ℕ). nat_abs (corr h k)) e in
              code_kept e (omega arith) (omega arith);
        }

pub damage_law : Damage
damage_law = record {
  moved = moved;
  withstands = λ N c s h m hc hm. withstands N c s h m hc hm (decision_law.chosen (corr h));
}
