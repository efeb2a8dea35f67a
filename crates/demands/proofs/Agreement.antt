-- Counts of magnitude at most 1, as tones give them: leads are at most 64, and with lead 64 every count agrees with the decided code.
use mathlib.Core.Path.{◌≡◌, refl, sym, ◌∙◌, ap}
use mathlib.Core.Bool.{Bool, true, false}
use Prim.Native.Nat.{ℕ, zero, suc, ◌+◌, ◌<◌, ◌≤◌}
use native.Mathlib.Decide.{ℕ_discrete}
use native.Mathlib.Omega.{arith}
use lib.IntN.{ℤ, pos, negsuc, nat_abs, ◌+ℤ◌}
use Rattle.lists.specs.Sums.{sum}
use Rattle.lists.proofs.Integers.{sub_cases, abs_add}
use Rattle.lists.proofs.Sums.{abs_sum, total_within}
use Rattle.walsh.specs.Words.{minus, signed, corr}
use Rattle.decision.specs.Decision.{negative, code_of, decision}
use Rattle.damage.specs.Damage.{sent}
use Rattle.walsh.proofs.Signed.{abs_signed, signed_twice}
use Rattle.walsh.proofs.Sizes.{corr_within}
use Rattle.decision.proofs.Choice.{decision_law, nearest}
use Rattle.block_decoder.specs.Decoding.{plain, symbols_of, count_in, weighted_at}
use Rattle.demands.specs.Laws.{Range}
use Rattle.demands.proofs.Hearings.{plain_within}

sum_small : (n : ℕ) (f : ℕ → ℤ) → ((t : ℕ) → nat_abs (f t) ≤ 1) → nat_abs (sum n f) ≤ n
sum_small n f h = omega (arith, abs_sum n f, total_within n 1 (λ t. nat_abs (f t)) (λ t l. h t))

-- ---- a sum of magnitude n of n such numbers

-- x and y add up in magnitude
module _ (x y : ℤ) (e : nat_abs (x +ℤ y) ≡ nat_abs x + nat_abs y) (one : nat_abs y ≡ 1) where
  pub last_agrees : y ≡ signed (negative (x +ℤ y)) (pos 1)
  last_agrees = by x y e one
    where
      by : (x y : ℤ) → nat_abs (x +ℤ y) ≡ nat_abs x + nat_abs y → nat_abs y ≡ 1 → y ≡ signed (negative (x +ℤ y)) (pos 1)
      by (pos a) (pos b) e one = ap pos one
      by (pos a) (negsuc b) e one =
          sub_cases (λ z. nat_abs z ≡ a + suc b → negsuc b ≡ signed (negative z) (pos 1)) a (suc b)
          (λ l g. let z : b ≡ 0 = omega arith in ap negsuc z)
          (λ l g. absurd (omega arith)) e
      by (negsuc a) (pos b) e one =
          sub_cases (λ z. nat_abs z ≡ suc a + b → pos b ≡ signed (negative z) (pos 1)) b (suc a)
          (λ l g. absurd (omega arith))
          (λ l g. let z : b ≡ 1 = omega arith in ap pos z) e
      by (negsuc a) (negsuc b) e one = let z : b ≡ 0 = omega arith in ap negsuc z

  pub sign_kept : 1 ≤ nat_abs x → negative (x +ℤ y) ≡ negative x
  sign_kept = by x y e one
    where
      by : (x y : ℤ) → nat_abs (x +ℤ y) ≡ nat_abs x + nat_abs y → nat_abs y ≡ 1 → 1 ≤ nat_abs x → negative (x +ℤ y) ≡ negative x
      by (pos a) (pos b) e one h = refl
      by (pos a) (negsuc b) e one h =
          sub_cases (λ z. nat_abs z ≡ a + suc b → negative z ≡ false) a (suc b) (λ l g. absurd (omega arith)) (λ l g. refl) e
      by (negsuc a) (pos b) e one h =
          sub_cases (λ z. nat_abs z ≡ suc a + b → negative z ≡ true) b (suc a) (λ l g. refl) (λ l g. absurd (omega arith)) e
      by (negsuc a) (negsuc b) e one h = refl

all_agree : (n : ℕ) (f : ℕ → ℤ) → ((t : ℕ) → nat_abs (f t) ≤ 1) → nat_abs (sum n f) ≡ n → (t : ℕ) → t < n → f t ≡ signed (negative (sum n f)) (pos 1)
unfolding sum
all_agree zero f h e t l = absurd (omega arith)
all_agree (suc n) f h e t l =
    let before : nat_abs (sum n f) ≡ n = omega (arith, abs_add (sum n f) (f n), sum_small n f h, h n) in
    let one : nat_abs (f n) ≡ 1 = omega (arith, abs_add (sum n f) (f n), sum_small n f h, h n) in
    by before one (all_agree n f h before) (ℕ_discrete t n)
  where
    by : nat_abs (sum n f) ≡ n → nat_abs (f n) ≡ 1 → ((k : ℕ) → k < n → f k ≡ signed (negative (sum n f)) (pos 1)) → Dec (t ≡ n) → f t ≡ signed (negative (sum n f +ℤ f n)) (pos 1)
    by before one r (yes p) = rw p (last_agrees (sum n f) (f n) (omega arith) one)
    by before one r (no ne) =
        r t (omega arith) ∙ ap (λ (s : Bool). signed s (pos 1)) (sym (sign_kept (sum n f) (f n) (omega arith) one (omega arith)))

-- ---- one character

module _ (h : ℕ → ℤ) (small : (t : ℕ) → nat_abs (h t) ≤ 1) where
  corr_small : (c : ℕ) → nat_abs (corr h c) ≤ 64
  corr_small c = corr_within 1 h c (λ t l. small t)

  pub lead_high : (decision (corr h)).lead ≤ 64
  lead_high =
      omega (arith, nearest (decision_law.chosen (corr h)), corr_small (decision (corr h)).word)

  -- what a clean character's counts are
  pub record CleanCounts : Type 0 where
    pub word : ℕ
    pub sign : Bool
    pub below : word < 64
    pub code : (decision (corr h)).code ≡ code_of word sign
    pub counts : (t : ℕ) → t < 64 → h t ≡ sent 1 word sign t

  pub clean_counts : (decision (corr h)).lead ≡ 64 → CleanCounts
  unfolding corr sent
  clean_counts e =
      let choice = decision_law.chosen (corr h) in
      let w = (decision (corr h)).word in
      let whole : nat_abs (corr h w) ≡ 64 = omega (arith, nearest choice, corr_small w) in
      record {
        word = w;
        sign = negative (corr h w);
        below = choice.winner.among;
        code = choice.code ∙ ap (λ (z : ℤ). code_of w (negative z)) choice.correlation;
        counts = λ t l.
            sym (signed_twice (minus w t) (h t))
            ∙ ap (signed (minus w t)) (all_agree 64 (λ t. signed (minus w t) (h t)) (λ k. omega (arith, abs_signed (minus w k) (h k), small k)) whole t l);
      }

pub range : Range
unfolding weighted_at
range = record {
  correlations = λ b tones q. corr_small (count_in b (symbols_of tones) plain q) (plain_within b (symbols_of tones) q);
  leads = λ b tones q. lead_high (count_in b (symbols_of tones) plain q) (plain_within b (symbols_of tones) q);
}
