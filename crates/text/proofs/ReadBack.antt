-- The decimal digits of a number are digits, and their value is the number, with a sign too: the laws of numbers.
use mathlib.Core.Path.{◌≡◌, refl, ◌∙◌, ap}
use mathlib.Core.Bool.{Bool, true, false, cond, and-eq-true_iff}
use mathlib.Core.List.{List, [], ◌∷◌, ◌++◌}
use Prim.Native.Nat.{ℕ, zero, suc, ◌+◌, ◌-◌, ◌*◌, ◌/◌, ◌%◌, ◌<◌}
use native.Mathlib.Omega.{arith}
use borrow.Author.Tests.{ltb-true, ltb-false, ne_eqb}
use lib.Dec.{ltb}
use lib.IntN.{ℤ, pos, negsuc, neg_ℤ}
use Rattle.lists.specs.Lists.{every}
use Rattle.text.specs.Ascii.{hyphen}
use Rattle.text.specs.Decimal.{is_digit, value_from, digits, decimal, signed_decimal, signed_value}
use Rattle.text.specs.Laws.{Numbers, SignedNumbers}
use Rattle.text.proofs.Digits.{is_digit_lem, digit_range}

every_last : {A : Type 0} (p : A → Bool) (xs : List A) (y : A) → every p xs ≡ true → p y ≡ true → every p (xs ++ (y ∷ [])) ≡ true
unfolding every
every_last p [] y h e = rw e
every_last p (x ∷ xs) y h e =
    let both = (and-eq-true_iff (p x) (every p xs)).0 h in
    rw both.0 (every_last p xs y both.1 e)

value_last : (xs : List ℕ) (v d : ℕ) → value_from v (xs ++ (d ∷ [])) ≡ 10 * value_from v xs + (d - 48)
unfolding value_from
value_last [] v d = refl
value_last (x ∷ xs) v d = value_last xs (10 * v + (x - 48)) d

digits_are_digits : (count n : ℕ) → every is_digit (digits count n) ≡ true
unfolding every digits
digits_are_digits zero n = refl
digits_are_digits (suc count) n = by (ltb n 10) refl (digits_are_digits count (n / 10))
  where
    by : (t : Bool) → ltb n 10 ≡ t → every is_digit (digits count (n / 10)) ≡ true
        → every is_digit (cond t ((48 + n) ∷ []) (digits count (n / 10) ++ ((48 + n % 10) ∷ []))) ≡ true
    by true e r = rw (is_digit_lem (48 + n) (omega arith) (omega (arith, ltb-true n 10 e)))
    by false e r = every_last is_digit (digits count (n / 10)) (48 + n % 10) r (is_digit_lem (48 + n % 10) (omega arith) (omega arith))

digits_read_back : (count n : ℕ) → n < count → value_from 0 (digits count n) ≡ n
unfolding value_from digits
digits_read_back zero n h = absurd (omega arith)
digits_read_back (suc count) n h = by (ltb n 10) refl (digits_read_back count (n / 10))
  where
    by : (t : Bool) → ltb n 10 ≡ t → (n / 10 < count → value_from 0 (digits count (n / 10)) ≡ n / 10)
        → value_from 0 (cond t ((48 + n) ∷ []) (digits count (n / 10) ++ ((48 + n % 10) ∷ []))) ≡ n
    by true e r = omega arith
    by false e r = omega (arith, value_last (digits count (n / 10)) 0 (48 + n % 10), r (omega (arith, ltb-false n 10 e)))

are_digits : (n : ℕ) → every is_digit (decimal n) ≡ true
unfolding decimal
are_digits n = digits_are_digits (suc n) n

read_back : (n : ℕ) → value_from 0 (decimal n) ≡ n
unfolding decimal
read_back n = digits_read_back (suc n) n (omega arith)

pub numbers : Numbers
numbers = record { are_digits = are_digits; read_back = read_back }

-- ---- with a sign

-- digits have no minus before them
digits_value : (cs : List ℕ) → every is_digit cs ≡ true → signed_value cs ≡ pos (value_from 0 cs)
unfolding signed_value every value_from
digits_value [] h = refl
digits_value (c ∷ cs) h =
    let digit = digit_range c ((and-eq-true_iff (is_digit c) (every is_digit cs)).0 h).0 in
    rw (ne_eqb c hyphen (λ e. omega (arith, digit.0)))

signed_are_digits : (n : ℕ) → every is_digit (signed_decimal (pos n)) ≡ true
unfolding signed_decimal
signed_are_digits n = are_digits n

minus_before : (n : ℕ) → 0 < n → signed_decimal (neg_ℤ (pos n)) ≡ hyphen ∷ signed_decimal (pos n)
unfolding signed_decimal
minus_before zero h = absurd (omega arith)
minus_before (suc n) h = refl

signed_read_back : (z : ℤ) → signed_value (signed_decimal z) ≡ z
unfolding signed_decimal signed_value
signed_read_back (pos n) = digits_value (decimal n) (are_digits n) ∙ ap pos (read_back n)
signed_read_back (negsuc n) = ap (λ (m : ℕ). neg_ℤ (pos m)) (read_back (suc n))

pub signed_numbers : SignedNumbers
signed_numbers = record { are_digits = signed_are_digits; minus_before = minus_before; read_back = signed_read_back }
