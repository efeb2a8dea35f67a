-- Floats that are not negative, by the fractions that they equal: a sum, difference, product or quotient is the exact one, rounded once.
use mathlib.Core.Path.{◌≡◌, refl, sym, ap, ap₂, ◌∙◌, subst}
use mathlib.Core.Bool.{true, false, true≢false}
use Prim.Native.Nat.{ℕ, ◌+◌, ◌-◌, ◌*◌, ◌<◌, ◌≤◌}
use native.Mathlib.Nat.{mul_comm, mul_assoc, mul_right_comm, mul-mul-mul_comm, mul-sub, add-mul, mul-pos, mul-le-mul_right, mul-lt-mul_of_pos_right, not-le_of_lt, lt_of_not-le, eq_of_mul-eq-mul_right}
use native.Mathlib.Omega.{arith}
use borrow.Author.Tests.{lt-ltb, le-ltb, ne_eqb}
use lib.IntN.{ℤ}
use lib.Ieee.{Float, nan, inf, fin, Format, up, down, round, neg, sum, add, sub, mul, div}
use lib.Ieee.Exact.{HasValue}
use lib.Ieee.Fits.{down_pos}
use lib.Ieee.Order.{transfer}
use lib.Ieee.Positive.{first_pos}
use lib.Ieee.Scale.{round_same}

-- ---- the fractions X / p = a / c and Y / q = b / d, in whole numbers

-- where both are a / c
pub cross : (X Y p q a c : ℕ) → 0 < c → X * c ≡ a * p → Y * c ≡ a * q → X * q ≡ Y * p
cross X Y p q a c C h k =
    eq_of_mul-eq-mul_right c C (X * q) (Y * p)
    (mul_right_comm X q c ∙ ap (λ (z : ℕ). z * q) h ∙ mul_right_comm a p q ∙ ap (λ (z : ℕ). z * p) (sym k) ∙ mul_right_comm Y c p)

pub sub_mul : (a b n : ℕ) → (a - b) * n ≡ a * n - b * n
sub_mul a b n = mul_comm (a - b) n ∙ mul-sub n a b ∙ ap₂ (λ (x y : ℕ). x - y) (mul_comm n a) (mul_comm n b)

module _ (X Y p q a b c : ℕ) (h : X * c ≡ a * p) (k : Y * c ≡ b * q) where
  left_over : X * q * c ≡ a * (p * q)
  left_over = mul_right_comm X q c ∙ ap (λ (z : ℕ). z * q) h ∙ mul_assoc a p q

  right_over : Y * p * c ≡ b * (p * q)
  right_over = mul_right_comm Y p c ∙ ap (λ (z : ℕ). z * p) k ∙ mul_right_comm b q p ∙ mul_assoc b p q

  sum_over : (X * q + Y * p) * c ≡ (a + b) * (p * q)
  sum_over = add-mul (X * q) (Y * p) c ∙ ap₂ (λ (x y : ℕ). x + y) left_over right_over ∙ sym (add-mul a b (p * q))

  difference_over : (X * q - Y * p) * c ≡ (a - b) * (p * q)
  difference_over = sub_mul (X * q) (Y * p) c ∙ ap₂ (λ (x y : ℕ). x - y) left_over right_over ∙ sym (sub_mul a b (p * q))

module _ (X Y p q a b c d : ℕ) (h : X * c ≡ a * p) (k : Y * d ≡ b * q) where
  product_over : X * Y * (c * d) ≡ a * b * (p * q)
  product_over = mul-mul-mul_comm X Y c d ∙ ap₂ (λ (x y : ℕ). x * y) h k ∙ mul-mul-mul_comm a p b q

  quotient_over : X * q * (c * b) ≡ a * d * (Y * p)
  quotient_over =
      mul-mul-mul_comm X q c b
      ∙ ap₂ (λ (x y : ℕ). x * y) h (mul_comm q b ∙ sym k ∙ mul_comm Y d)
      ∙ mul-mul-mul_comm a p d Y
      ∙ ap (λ (z : ℕ). a * d * z) (mul_comm p Y)

-- ---- a float that is a / c is one of a finite significand and no sign

pub of_value : (P : Float → Type 0) (x : Float) (a c : ℕ) → HasValue x false a c → ((m : ℕ) (e : ℤ) → m * up e * c ≡ a * down e → P (fin false m e)) → P x
of_value P nan a c h g = absurd h
of_value P (inf s) a c h g = absurd h
of_value P (fin true m e) a c h g = absurd (true≢false h.0)
of_value P (fin false m e) a c h g = g m e h.1

pub same_value : (x : Float) (a c a' c' : ℕ) → 0 < c → a' * c ≡ a * c' → HasValue x false a c → HasValue x false a' c'
same_value x a c a' c' C e h = of_value (λ (x : Float). HasValue x false a' c') x a c h (λ m g k. (refl, cross (m * up g) a' (down g) c' a c C k e))

pub of_values : (P : Float → Float → Type 0) (x y : Float) (a b c d : ℕ) → HasValue x false a c → HasValue y false b d
    → ((m : ℕ) (e : ℤ) (n : ℕ) (g : ℤ) → m * up e * c ≡ a * down e → n * up g * d ≡ b * down g → P (fin false m e) (fin false n g)) → P x y
of_values P x y a b c d h k f =
    of_value (λ (x : Float). P x y) x a c h (λ m e h. of_value (λ (y : Float). P (fin false m e) y) y b d k (λ n g k. f m e n g h k))

module _ (f : Format) (x y : Float) (a b c : ℕ) (C : 0 < c) (h : HasValue x false a c) (k : HasValue y false b c) where
  pub sum_rounded : add f x y ≡ round f false (a + b) c
  unfolding add sum
  sum_rounded = of_values (λ x y. add f x y ≡ round f false (a + b) c) x y a b c c h k (λ m e n g h k.
      round_same f false (m * up e * down g + n * up g * down e) (down e * down g) (a + b) c (mul-pos (down_pos e) (down_pos g)) C
      (sum_over (m * up e) (n * up g) (down e) (down g) a b c h k))

  pub difference_rounded : b ≤ a → sub f x y ≡ round f false (a - b) c
  unfolding sub add neg sum
  difference_rounded l = of_values (λ x y. sub f x y ≡ round f false (a - b) c) x y a b c c h k (λ m e n g h k.
      let less : n * up g * down e ≤ m * up e * down g =
      transfer (n * up g) (m * up e) (down g) (down e) b a c c C C k h (mul-le-mul_right c l) in
      rw (le-ltb (m * up e * down g) (n * up g * down e) less)
      (round_same f false (m * up e * down g - n * up g * down e) (down e * down g) (a - b) c (mul-pos (down_pos e) (down_pos g)) C
      (difference_over (m * up e) (n * up g) (down e) (down g) a b c h k)))

  pub difference_turned : a < b → sub f x y ≡ round f true (b - a) c
  unfolding sub add neg sum
  difference_turned l = of_values (λ x y. sub f x y ≡ round f true (b - a) c) x y a b c c h k (λ m e n g h k.
      let less : m * up e * down g < n * up g * down e =
      lt_of_not-le (λ u. not-le_of_lt (mul-lt-mul_of_pos_right l C)
      (transfer b a c c (n * up g) (m * up e) (down g) (down e) (down_pos g) (down_pos e) (sym k) (sym h) u)) in
      rw (lt-ltb (m * up e * down g) (n * up g * down e) less)
      (round_same f true (n * up g * down e - m * up e * down g) (down e * down g) (b - a) c (mul-pos (down_pos e) (down_pos g)) C
      (difference_over (n * up g) (m * up e) (down g) (down e) b a c k h ∙ ap (λ (z : ℕ). (b - a) * z) (mul_comm (down g) (down e)))))

module _ (f : Format) (x y : Float) (a b c d : ℕ) (C : 0 < c) (D : 0 < d) (h : HasValue x false a c) (k : HasValue y false b d) where
  pub product_rounded : mul f x y ≡ round f false (a * b) (c * d)
  unfolding mul
  product_rounded = of_values (λ x y. mul f x y ≡ round f false (a * b) (c * d)) x y a b c d h k (λ m e n g h k.
      round_same f false (m * up e * (n * up g)) (down e * down g) (a * b) (c * d) (mul-pos (down_pos e) (down_pos g)) (mul-pos C D)
      (product_over (m * up e) (n * up g) (down e) (down g) a b c d h k))

  pub quotient_rounded : 0 < b → div f x y ≡ round f false (a * d) (c * b)
  unfolding div
  quotient_rounded B = of_values (λ x y. div f x y ≡ round f false (a * d) (c * b)) x y a b c d h k (λ m e n g h k.
      let above : 0 < n * up g = first_pos (n * up g) d (subst (λ (z : ℕ). 0 < z) (sym k) (mul-pos B (down_pos g))) in
      let some : 0 < n = first_pos n (up g) above in
      rw (ne_eqb n 0 (λ z. omega arith))
      (round_same f false (m * up e * down g) (n * up g * down e) (a * d) (c * b) (mul-pos above (down_pos e)) (mul-pos C B)
      (quotient_over (m * up e) (n * up g) (down e) (down g) a b c d h k)))
