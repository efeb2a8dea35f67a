-- A number's digits from the front: there is a first one, a 0 only if it stands alone; and a number with one digit more.
use mathlib.Core.Path.{◌≡◌, refl, sym, ◌∙◌, ap}
use mathlib.Core.Bool.{true, and-eq-true_iff}
use mathlib.Core.List.{List, [], ◌∷◌, ◌++◌}
use mathlib.Core.Logic.{◌⊎◌, inl, inr}
use Prim.Native.Nat.{ℕ, zero, suc, ◌+◌, ◌-◌, ◌*◌, ◌<◌, ◌≤◌, ◌/◌, ◌%◌}
use native.Mathlib.Decide.{dec_lt}
use native.Mathlib.Omega.{arith}
use Rattle.lists.specs.Lists.{every}
use Rattle.text.specs.Decimal.{is_digit, value_from, decimal}
use Rattle.text.proofs.Digits.{digit_range}
use Rattle.text.proofs.Decimals.{decimal_small, decimal_more}
use Rattle.text.proofs.ReadBack.{numbers}

-- more digits make no value smaller
pub value_grows : (ds : List ℕ) (v : ℕ) → v ≤ value_from v ds
unfolding value_from
value_grows [] v = omega arith
value_grows (d ∷ ds) v = omega (arith, value_grows ds (10 * v + (d - 48)))

-- one digit more at the end of a number
pub decimal_digit : (v c : ℕ) → 1 ≤ v → is_digit c ≡ true → decimal (10 * v + (c - 48)) ≡ decimal v ++ (c ∷ [])
decimal_digit v c h e =
    let range = digit_range c e in
    let tenth : (10 * v + (c - 48)) / 10 ≡ v = omega arith in
    let last : 48 + (10 * v + (c - 48)) % 10 ≡ c = omega arith in
    decimal_more (10 * v + (c - 48)) (omega arith) ∙ (rw (tenth, last))

-- ---- the first digit, and those after it

-- the value of a first digit, after none of value 0
abbrev pub first_value : ℕ → ℕ
first_value c = 10 * 0 + (c - 48)

-- a 0 in front stands alone
pub record Front (n : ℕ) : Type 0 where
  pub first : ℕ
  pub after : List ℕ
  pub whole : decimal n ≡ first ∷ after
  pub alone : (1 ≤ first_value first) ⊎ (after ≡ [])

module _ {n : ℕ} (f : Front n) where
  front_digits : (is_digit f.first ≡ true) × (every is_digit f.after ≡ true)
  unfolding every
  front_digits = (and-eq-true_iff (is_digit f.first) (every is_digit f.after)).0 (rw f.whole at (numbers.are_digits n))

  pub first_digit : is_digit f.first ≡ true
  first_digit = front_digits.0

  pub after_digits : every is_digit f.after ≡ true
  after_digits = front_digits.1

  pub front_value : value_from (first_value f.first) f.after ≡ n
  unfolding value_from
  front_value = sym (ap (value_from 0) f.whole) ∙ numbers.read_back n

front_small : (n : ℕ) → n < 10 → Front n
front_small n h = record { first = 48 + n; after = []; whole = decimal_small n h; alone = inr refl }

front_more : (n : ℕ) → 10 ≤ n → Front (n / 10) → Front n
unfolding value_from
front_more n h f = record {
  first = f.first;
  after = f.after ++ ((48 + n % 10) ∷ []);
  whole = decimal_more n h ∙ (rw f.whole);
  alone = inl (by f.alone);
}
  where
    by : (1 ≤ first_value f.first) ⊎ (f.after ≡ []) → 1 ≤ first_value f.first
    by (inl l) = l
    by (inr e) = omega (arith, sym (ap (value_from (first_value f.first)) e) ∙ front_value f)

front_below : (count n : ℕ) → n < count → Front n
front_below zero n h = absurd (omega arith)
front_below (suc count) n h = by (front_below count (n / 10)) (dec_lt n 10)
  where
    by : (n / 10 < count → Front (n / 10)) → Dec (n < 10) → Front n
    by r (yes l) = front_small n l
    by r (no l) = front_more n (omega arith) (r (omega arith))

pub front : (n : ℕ) → Front n
front n = front_below (suc n) n (omega arith)
