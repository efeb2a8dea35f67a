-- The laws of text. Each is the promise of the function of the same name in src/laws.rt.
use Rattle.std.specs.Prelude.{true, ◌∷◌, ◌≡◌, ℕ, ◌<◌, ℤ, pos, neg_ℤ}
use Rattle.lists.specs.Lists.{every}
use Rattle.text.specs.Ascii.{hyphen}
use Rattle.text.specs.Decimal.{is_digit, value_from, decimal, signed_decimal, signed_value}

-- a number in decimal is digits, and reads as that number
pub record Numbers : Type 0 where
  pub are_digits : (n : ℕ) → every is_digit (decimal n) ≡ true
  pub read_back : (n : ℕ) → value_from 0 (decimal n) ≡ n

-- a whole number in decimal is digits, after a minus precisely if it is negative, and reads as that number
pub record SignedNumbers : Type 0 where
  pub are_digits : (n : ℕ) → every is_digit (signed_decimal (pos n)) ≡ true
  pub minus_before : (n : ℕ) → 0 < n → signed_decimal (neg_ℤ (pos n)) ≡ hyphen ∷ signed_decimal (pos n)
  pub read_back : (z : ℤ) → signed_value (signed_decimal z) ≡ z
