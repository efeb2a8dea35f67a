-- Scanning a number: what is scanned is one, a number is scanned whole, and none agrees with more bytes.
use mathlib.Core.Path.{◌≡◌, refl, ◌∙◌, ap}
use mathlib.Core.Bool.{Bool, true, false, cond}
use mathlib.Core.List.{List, [], ◌∷◌, ◌++◌}
use mathlib.Core.Logic.{◌⊎◌}
use Prim.Native.Nat.{ℕ, suc, ◌+◌, ◌≤◌}
use native.Mathlib.Omega.{arith}
use borrow.Author.Tests.{eqb-true, ne_eqb}
use lib.Dec.{eqb}
use lib.ListN.{length, take, drop}
use Rattle.text.specs.Decimal.{value_from, decimal}
use Rattle.text.proofs.Digits.{digit_range}
use Rattle.text.proofs.Decimals.{decimal_small}
use Rattle.sentence.specs.Reading.{Scanned, may_follow, one_more, scan_from}
use Rattle.sentence.proofs.Following.{Follows, follows, may_follow_lem}
use Rattle.sentence_laws.proofs.Leading.{value_grows, first_value, Front, first_digit, after_digits, front_value, front}
use Rattle.sentence_laws.proofs.Shared.{shared}
use Rattle.sentence_laws.proofs.Scanning.{plain, scan_whole, scan_most, Longer, scan_longer}

-- ---- what is scanned is a number up to the limit

pub record Taken (limit : ℕ) (bytes : List ℕ) (s : Scanned) : Type 0 where
  pub text : eqb s.count 0 ≡ false → decimal s.value ≡ take s.count bytes
  pub fits : s.value ≤ limit

nothing_taken : (limit : ℕ) (bytes : List ℕ) → Taken limit bytes (record { count = 0; value = 0 })
nothing_taken limit bytes = record { text = λ e. (absurd cc); fits = omega arith }

pub number_taken : (limit : ℕ) (bytes : List ℕ) → Taken limit bytes (scan_from limit false 0 bytes)
unfolding scan_from
number_taken limit [] = nothing_taken limit []
number_taken limit (c ∷ cs) = by (may_follow limit false 0 c) refl
  where
    next : Scanned
    next = scan_from limit true (first_value c) cs

    by : (t : Bool) → may_follow limit false 0 c ≡ t → Taken limit (c ∷ cs) (cond t (one_more next) (record { count = 0; value = 0 }))
    by false p = nothing_taken limit (c ∷ cs)
    by true p =
        let f = follows limit false 0 c p in
        let range = digit_range c f.digit in
        let more : Longer limit (first_value c) cs next = scan_longer limit cs (first_value c) f.fits in
        let same : 48 + first_value c ≡ c = omega arith in
        record {
          text = λ e. more.text
              ∙ ap (λ (l : List ℕ). l ++ take next.count cs) (decimal_small (first_value c) (omega arith))
              ∙ ap (λ (n : ℕ). n ∷ take next.count cs) same;
          fits = more.fits;
        }

-- ---- a number before bytes that do not begin with a digit

-- how far bytes agree with a text whose first k bytes they begin with, where most is how far they agree with what follows
unfoldable pub reach : ℕ → (List ℕ → ℕ) → List ℕ → ℕ
reach k most bytes = cond (eqb k 0) 0 (k + most (drop k bytes))

module _ (limit n : ℕ) (rest : List ℕ) (ends : plain rest ≡ true) (small : n ≤ limit) where
  first_follows : (f : Front n) → Follows limit false 0 f.first
  first_follows f = record {
    digit = first_digit f;
    fits = omega (arith, value_grows f.after (first_value f.first), front_value f);
    no_zero = refl;
  }

  pub number_whole : scan_from limit false 0 (decimal n ++ rest) ≡ record { count = length (decimal n); value = n }
  unfolding scan_from
  number_whole =
      let f = front n in
      let after : scan_from limit true (first_value f.first) (f.after ++ rest) ≡ record { count = length f.after; value = n } =
      scan_whole limit rest ends f.after (first_value f.first) f.alone (after_digits f) (omega (arith, front_value f))
      ∙ ap (λ (k : ℕ). record { count = length f.after; value = k }) (front_value f) in
      rw (f.whole, may_follow_lem limit false 0 f.first (first_follows f)) (ap one_more after)

  pub number_most : (most : List ℕ → ℕ) → ((bytes : List ℕ) → shared bytes rest ≤ most bytes) → (bytes : List ℕ)
      → shared bytes (decimal n ++ rest) ≤ reach (scan_from limit false 0 bytes).count most bytes
  unfolding shared scan_from reach
  number_most most bound [] = omega arith
  number_most most bound (c ∷ cs) = rw f.whole (by (eqb c f.first) refl)
    where
      f : Front n
      f = front n

      next : Scanned
      next = scan_from limit true (first_value c) cs

      by : (t : Bool) → eqb c f.first ≡ t
          → cond t (suc (shared cs (f.after ++ rest))) 0 ≤ reach (scan_from limit false 0 (c ∷ cs)).count most (c ∷ cs)
      by false p = omega arith
      by true p =
          let same : c ≡ f.first = eqb-true c f.first p in
          let step : may_follow limit false 0 c ≡ true = rw same (may_follow_lem limit false 0 f.first (first_follows f)) in
          let alone : (1 ≤ first_value c) ⊎ (f.after ≡ []) = rw same f.alone in
          let fits : value_from (first_value c) f.after ≤ limit = rw same (omega (arith, front_value f)) in
          let some : eqb (suc next.count) 0 ≡ false = ne_eqb (suc next.count) 0 (λ e. omega arith) in
          rw (step, some) (omega (arith, scan_most limit rest ends most bound f.after (first_value c) cs alone (after_digits f) fits))
