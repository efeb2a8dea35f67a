-- Scanning the digits after a number's first: a number's are all scanned, they make a number, and none agrees with more bytes.
use mathlib.Core.Path.{◌≡◌, refl, sym, ◌∙◌, ap}
use mathlib.Core.Bool.{Bool, true, false, cond, not, ◌&&◌, and-eq-true_iff}
use mathlib.Core.List.{List, [], ◌∷◌, ◌++◌, append_assoc, append-nil}
use mathlib.Core.Logic.{◌⊎◌, inl, inr}
use Prim.Native.Nat.{ℕ, zero, suc, ◌+◌, ◌-◌, ◌*◌, ◌≤◌}
use native.Mathlib.Omega.{arith}
use borrow.Author.Tests.{eqb-true, ne_eqb, not-true}
use lib.Dec.{eqb}
use lib.ListN.{length, take, drop}
use Rattle.lists.specs.Lists.{every}
use Rattle.text.specs.Decimal.{is_digit, value_from, decimal}
use Rattle.sentence.specs.Reading.{Scanned, may_follow, one_more, scan_from}
use Rattle.sentence.proofs.Following.{Follows, follows, may_follow_lem, no_digit}
use Rattle.sentence_laws.proofs.Leading.{value_grows, decimal_digit}
use Rattle.sentence_laws.proofs.Shared.{shared}

-- bytes that do not begin with a digit
unfoldable pub plain : List ℕ → Bool
plain [] = true
plain (c ∷ cs) = not (is_digit c)

shared_plain : (c : ℕ) (cs rest : List ℕ) → is_digit c ≡ true → plain rest ≡ true → shared (c ∷ cs) rest ≡ 0
unfolding shared plain
shared_plain c cs [] e p = refl
shared_plain c cs (d ∷ rest) e p = by (eqb c d) refl
  where
    by : (t : Bool) → eqb c d ≡ t → cond t (suc (shared cs rest)) 0 ≡ 0
    by true q =
        let same : c ≡ d = eqb-true c d q in
        let other : is_digit d ≡ false = not-true (is_digit d) p in
        absurd cc
    by false q = refl

-- ---- a number that is begun is above 0

begun_above : (v : ℕ) → true && eqb v 0 ≡ false → 1 ≤ v
begun_above zero e = absurd cc
begun_above (suc v) e = omega arith

above_begun : (v : ℕ) → 1 ≤ v → true && eqb v 0 ≡ false
above_begun v h = ne_eqb v 0 (λ e. omega arith)

-- ---- digits before bytes that do not begin with one

scan_plain : (limit v : ℕ) (rest : List ℕ) → plain rest ≡ true → scan_from limit true v rest ≡ record { count = 0; value = v }
unfolding plain scan_from
scan_plain limit v [] p = refl
scan_plain limit v (c ∷ cs) p = rw (no_digit limit true v c (not-true (is_digit c) p))

-- how far bytes agree that begin with what is scanned, where most is how far they agree with what follows
abbrev pub reaches : (List ℕ → ℕ) → Scanned → List ℕ → ℕ
reaches most s bytes = s.count + most (drop s.count bytes)

module _ (limit : ℕ) (rest : List ℕ) (ends : plain rest ≡ true) where
  -- all of them are scanned
  pub scan_whole : (ds : List ℕ) (v : ℕ) → (1 ≤ v) ⊎ (ds ≡ []) → every is_digit ds ≡ true → value_from v ds ≤ limit
      → scan_from limit true v (ds ++ rest) ≡ record { count = length ds; value = value_from v ds }
  unfolding scan_from every value_from
  scan_whole [] v g e h = scan_plain limit v rest ends
  scan_whole (d ∷ ds) v (inr g) e h = absurd cc
  scan_whole (d ∷ ds) v (inl g) e h =
      let both = (and-eq-true_iff (is_digit d) (every is_digit ds)).0 e in
      let step : Follows limit true v d =
      record { digit = both.0; fits = omega (arith, value_grows ds (10 * v + (d - 48))); no_zero = above_begun v g } in
      rw (may_follow_lem limit true v d step) (ap one_more (scan_whole ds (10 * v + (d - 48)) (inl (omega arith)) both.1 h))

  -- and they agree with no more bytes than those scanned
  module _ (most : List ℕ → ℕ) (bound : (bytes : List ℕ) → shared bytes rest ≤ most bytes) where
    pub scan_most : (ds : List ℕ) (v : ℕ) (bytes : List ℕ) → (1 ≤ v) ⊎ (ds ≡ []) → every is_digit ds ≡ true → value_from v ds ≤ limit
        → shared bytes (ds ++ rest) ≤ reaches most (scan_from limit true v bytes) bytes
    unfolding shared scan_from every value_from
    scan_most ds v [] g e h = omega arith
    scan_most [] v (c ∷ cs) g e h = by (may_follow limit true v c) refl
      where
        by : (t : Bool) → may_follow limit true v c ≡ t
            → shared (c ∷ cs) rest ≤ reaches most (cond t (one_more (scan_from limit true (10 * v + (c - 48)) cs)) (record { count = 0; value = v })) (c ∷ cs)
        by true p = omega (arith, shared_plain c cs rest (follows limit true v c p).digit ends)
        by false p = omega (arith, bound (c ∷ cs))
    scan_most (d ∷ ds) v (c ∷ cs) (inr g) e h = absurd cc
    scan_most (d ∷ ds) v (c ∷ cs) (inl g) e h = by (eqb c d) refl (scan_most ds (10 * v + (c - 48)) cs (inl (omega arith)) both.1)
      where
        both : (is_digit d ≡ true) × (every is_digit ds ≡ true)
        both = (and-eq-true_iff (is_digit d) (every is_digit ds)).0 e

        next : Scanned
        next = scan_from limit true (10 * v + (c - 48)) cs

        by : (t : Bool) → eqb c d ≡ t → (value_from (10 * v + (c - 48)) ds ≤ limit → shared cs (ds ++ rest) ≤ reaches most next cs)
            → cond t (suc (shared cs (ds ++ rest))) 0 ≤ reaches most (scan_from limit true v (c ∷ cs)) (c ∷ cs)
        by false p r = omega arith
        by true p r =
            let same : c ≡ d = eqb-true c d p in
            let fits : value_from (10 * v + (c - 48)) ds ≤ limit = rw same h in
            let step : Follows limit true v c =
            record { digit = rw same both.0; fits = omega (arith, value_grows ds (10 * v + (c - 48))); no_zero = above_begun v g } in
            rw (may_follow_lem limit true v c step) (omega (arith, r fits))

-- ---- the number that is scanned

-- v with the digits that follow it
pub record Longer (limit v : ℕ) (bytes : List ℕ) (s : Scanned) : Type 0 where
  pub text : decimal s.value ≡ decimal v ++ take s.count bytes
  pub fits : s.value ≤ limit

pub scan_longer : (limit : ℕ) (bytes : List ℕ) (v : ℕ) → v ≤ limit → Longer limit v bytes (scan_from limit true v bytes)
unfolding scan_from
scan_longer limit [] v h = record { text = sym (append-nil (decimal v)); fits = h }
scan_longer limit (c ∷ cs) v h = by (may_follow limit true v c) refl (scan_longer limit cs (10 * v + (c - 48)))
  where
    next : Scanned
    next = scan_from limit true (10 * v + (c - 48)) cs

    by : (t : Bool) → may_follow limit true v c ≡ t → (10 * v + (c - 48) ≤ limit → Longer limit (10 * v + (c - 48)) cs next)
        → Longer limit v (c ∷ cs) (cond t (one_more next) (record { count = 0; value = v }))
    by false p r = record { text = sym (append-nil (decimal v)); fits = h }
    by true p r =
        let f = follows limit true v c p in
        let more = r f.fits in
        record {
          text = more.text
              ∙ ap (λ (l : List ℕ). l ++ take next.count cs) (decimal_digit v c (begun_above v f.no_zero) f.digit)
              ∙ append_assoc (decimal v) (c ∷ []) (take next.count cs);
          fits = more.fits;
        }
