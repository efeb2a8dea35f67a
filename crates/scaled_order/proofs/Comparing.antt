-- A float beside k / 512: the order of their values is the order of fractions, and `<=` decides it for every float (law `Order`).
use mathlib.Core.Path.{◌≡◌, refl, sym, ap, ap₂, ◌∙◌}
use mathlib.Core.Bool.{Bool, true, false, true≢false, ◌&&◌, ◌||◌}
use Prim.Native.Nat.{ℕ, zero, suc, ◌*◌, ◌<◌, ◌≤◌}
use native.Mathlib.Nat.{mul_right_comm, mul-pos, mul-le-mul_right, mul-lt-mul_of_pos_right, le_of_mul-le-mul_right, lt_of_mul-lt-mul_right, zero-mul, mul-one, zero-lt-suc, le_trans}
use native.Mathlib.Decide.{dec_le}
use native.Mathlib.Omega.{arith}
use borrow.Author.Tests.{leb-true, leb-false, eqb-true, eqb-false, lt-ltb, le-ltb, le-leb, lt-leb, eq-eqb, ne_eqb}
use lib.Dec.{leb, ltb, eqb, lit<}
use lib.IntN.{ℤ}
use lib.Ieee.{Float, nan, inf, fin, up, down, le, level}
use lib.Ieee.Exact.{HasValue}
use lib.Ieee.Fits.{up_pos, down_pos}
use Rattle.scaled.specs.Exact.{scaled}
use Rattle.scaled.proofs.Rounding.{of_value}
use Rattle.scaled.proofs.Scaling.{scaled_value}
use Rattle.scaled_order.specs.Order.{at_least}
use Rattle.scaled_order.specs.Laws.{Order}

-- ---- whole numbers

-- A / B and C / D in one proportion are in one order
same_order : (A B C D u v : ℕ) → 0 < u → 0 < v → A * u ≡ C * v → B * u ≡ D * v → leb A B ≡ leb C D
same_order A B C D u v U W e f = by (leb A B) refl
  where
    by : (t : Bool) → leb A B ≡ t → t ≡ leb C D
    by true h = sym (le-leb C D (le_of_mul-le-mul_right (rw (← e, ← f) (mul-le-mul_right u (leb-true A B h))) W))
    by false h = sym (lt-leb C D (lt_of_mul-lt-mul_right v (rw (← e, ← f) (mul-lt-mul_of_pos_right (leb-false A B h) U))))

pub less_or_level : (A B : ℕ) → ltb A B || level false A false B ≡ leb A B
less_or_level A B = by (dec_le A B) (dec_le B A)
  where
    by : Dec (A ≤ B) → Dec (B ≤ A) → ltb A B || level false A false B ≡ leb A B
    by (yes h) (yes k) = rw (le-ltb A B k, eq-eqb A B (omega arith), le-leb A B h)
    by (yes h) (no k) = rw (lt-ltb A B (omega arith), le-leb A B h)
    by (no h) k = rw (le-ltb A B (omega arith), ne_eqb A B (λ e. omega arith), lt-leb A B (omega arith))

zero_product : (m u : ℕ) → 0 < u → eqb (m * u) 0 ≡ eqb m 0
zero_product zero u h = rw (zero-mul u)
zero_product (suc m) u h =
    let above : 0 < suc m * u = mul-pos (zero-lt-suc m) h in
    rw (ne_eqb (suc m * u) 0 (λ e. omega arith), ne_eqb (suc m) 0 (λ e. omega arith))

level_zero : (A B : ℕ) → eqb A B && eqb A 0 ≡ eqb A 0 && eqb B 0
level_zero zero B = by (eqb B 0) refl
  where
    by : (t : Bool) → eqb B 0 ≡ t → eqb 0 B && true ≡ t
    by true h = rw (eq-eqb 0 B (sym (eqb-true B 0 h)))
    by false h = rw (ne_eqb 0 B (λ e. eqb-false B 0 h (sym e)))
level_zero (suc A) B = by (eqb (suc A) B)
  where
    by : (t : Bool) → t && eqb (suc A) 0 ≡ eqb (suc A) 0 && eqb B 0
    by true = rw (ne_eqb (suc A) 0 (λ e. omega arith))
    by false = rw (ne_eqb (suc A) 0 (λ e. omega arith))

pub both : (s t : Bool) → s && t ≡ true → (s ≡ true) × (t ≡ true)
both true true h = (refl, refl)
both true false h = absurd (true≢false (sym h))
both false t h = absurd (true≢false (sym h))

-- ---- every float

-- n × 2^d, which is k / 512, beside m × 2^e
module _ (m : ℕ) (e : ℤ) (n : ℕ) (d : ℤ) (k : ℕ) (h : n * up d * 512 ≡ k * down d) where
  plus_order : leb (n * up d * down e) (m * up e * down d) ≡ leb (k * down e) (m * up e * 512)
  plus_order =
      same_order (n * up d * down e) (m * up e * down d) (k * down e) (m * up e * 512) 512 (down d) (lit< tt) (down_pos d)
      (mul_right_comm (n * up d) (down e) 512 ∙ ap (λ (z : ℕ). z * down e) h ∙ mul_right_comm k (down d) (down e))
      (mul_right_comm (m * up e) (down d) 512)

  minus_order : eqb (n * up d * down e) 0 && eqb (m * up e * down d) 0 ≡ eqb k 0 && eqb m 0
  minus_order =
      ap₂ (λ (s t : Bool). s && t)
      (zero_product (n * up d) (down e) (down_pos e)
      ∙ sym (zero_product (n * up d) 512 (lit< tt))
      ∙ ap (λ (z : ℕ). eqb z 0) h
      ∙ zero_product k (down d) (down_pos d))
      (zero_product (m * up e) (down d) (down_pos d) ∙ zero_product m (up e) (up_pos e))

fraction_least : (x : Float) (n : ℕ) (d : ℤ) (k : ℕ) → n * up d * 512 ≡ k * down d → le (fin false n d) x ≡ at_least k x
unfolding le at_least
fraction_least nan n d k h = refl
fraction_least (inf true) n d k h = refl
fraction_least (inf false) n d k h = refl
fraction_least (fin false m e) n d k h = less_or_level (n * up d * down e) (m * up e * down d) ∙ plus_order m e n d k h
fraction_least (fin true m e) n d k h = level_zero (n * up d * down e) (m * up e * down d) ∙ minus_order m e n d k h

pub compared : (k : ℕ) (x : Float) → le (scaled k) x ≡ at_least k x
compared k x = of_value (λ (y : Float). le y x ≡ at_least k x) (scaled k) k 512 (scaled_value k) (λ n d h. fraction_least x n d k h)

plus_least : (k a c : ℕ) (x : Float) → 0 < c → HasValue x false a c → at_least k x ≡ leb (k * c) (a * 512)
unfolding at_least
plus_least k a c x C h = of_value (λ (x : Float). at_least k x ≡ leb (k * c) (a * 512)) x a c h (λ m e h.
    same_order (k * down e) (m * up e * 512) (k * c) (a * 512) c (down e) C (down_pos e)
    (mul_right_comm k (down e) c)
    (mul_right_comm (m * up e) 512 c ∙ ap (λ (z : ℕ). z * 512) h ∙ mul_right_comm a (down e) 512))

minus_least : (k a c : ℕ) (x : Float) → 0 < c → HasValue x true a c → at_least k x ≡ eqb k 0 && eqb a 0
unfolding at_least
minus_least k a c nan C h = absurd h
minus_least k a c (inf s) C h = absurd h
minus_least k a c (fin false m e) C h = absurd (true≢false (sym h.0))
minus_least k a c (fin true m e) C h =
    ap (λ (t : Bool). eqb k 0 && t)
    (sym (zero_product m (up e) (up_pos e))
    ∙ sym (zero_product (m * up e) c C)
    ∙ ap (λ (z : ℕ). eqb z 0) h.1
    ∙ zero_product a (down e) (down_pos e))

pub order_law : Order
order_law = record { plus = plus_least; minus = minus_least; compared = compared }

-- ---- the numbers k / 512 among themselves

pub scaled_least : (j k : ℕ) → at_least j (scaled k) ≡ leb j k
scaled_least j k =
    plus_least j k 512 (scaled k) (lit< tt) (scaled_value k)
    ∙ same_order (j * 512) (k * 512) j k 1 512 (lit< tt) (lit< tt) (mul-one (j * 512)) (mul-one (k * 512))

-- what is at least k / 512 is at least every smaller number
pub smaller_least : (j k : ℕ) (x : Float) → j ≤ k → at_least k x ≡ true → at_least j x ≡ true
unfolding at_least
smaller_least j k nan l h = h
smaller_least j k (inf s) l h = h
smaller_least j k (fin false m e) l h =
    le-leb (j * down e) (m * up e * 512) (le_trans (mul-le-mul_right (down e) l) (leb-true (k * down e) (m * up e * 512) h))
smaller_least j k (fin true m e) l h =
    let zeros = both (eqb k 0) (eqb m 0) h in
    rw (eq-eqb j 0 (omega (arith, eqb-true k 0 zeros.0)), zeros.1)
