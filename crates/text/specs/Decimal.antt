-- Numbers in decimal, as bytes of ASCII.
use Rattle.std.specs.Prelude.{Bool, cond, ◌&&◌, List, [], ◌∷◌, ◌++◌, ℕ, zero, suc, ◌+◌, ◌-◌, ◌*◌, ◌/◌, ◌%◌, leb, ltb, eqb, ℤ, pos, negsuc, neg_ℤ, nat_abs}
use Rattle.text.specs.Ascii.{hyphen}

abbrev pub is_digit : ℕ → Bool
is_digit c = leb 48 c && leb c 57

-- the value of decimal digits that follow others of value v
unfoldable pub value_from : ℕ → List ℕ → ℕ
value_from v [] = v
value_from v (c ∷ cs) = value_from (10 * v + (c - 48)) cs

-- the decimal digits of a number with at most count digits, with no 0 at the front
unfoldable pub digits : ℕ → ℕ → List ℕ
digits zero n = []
digits (suc count) n = cond (ltb n 10) ((48 + n) ∷ []) (digits count (n / 10) ++ ((48 + n % 10) ∷ []))

-- a number has no more digits than its value and one
unfoldable pub decimal : ℕ → List ℕ
decimal n = digits (suc n) n

-- the minus before a negative number
abbrev pub sign : ℤ → List ℕ
sign (pos n) = []
sign (negsuc n) = hyphen ∷ []

-- a whole number in decimal, a minus before a negative one
unfoldable pub signed_decimal : ℤ → List ℕ
signed_decimal z = sign z ++ decimal (nat_abs z)

-- the value of such a text
unfoldable pub signed_value : List ℕ → ℤ
signed_value [] = pos 0
signed_value (c ∷ cs) = cond (eqb c hyphen) (neg_ℤ (pos (value_from 0 cs))) (pos (value_from 0 (c ∷ cs)))

-- a number, and the byte that follows it
unfoldable pub field : ℕ → ℕ → List ℕ
field n end = decimal n ++ (end ∷ [])

-- the same of a signed number
unfoldable pub signed_field : ℤ → ℕ → List ℕ
signed_field z end = signed_decimal z ++ (end ∷ [])
