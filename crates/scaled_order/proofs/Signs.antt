-- Floats of either sign: rounding keeps the sign apart, and turning two signs turns the order.
use mathlib.Core.Path.{◌≡◌, refl, sym, subst}
use mathlib.Core.Bool.{Bool, true, false, true≢false, cond, not, ◌||◌}
use Prim.Native.Nat.{ℕ, zero, suc, ◌+◌, ◌*◌, ◌^◌, ◌<◌, ◌≤◌}
use native.Mathlib.Nat.{mul-pos, not-le_of_lt}
use native.Mathlib.Decide.{dec_le}
use native.Mathlib.Omega.{arith}
use borrow.Author.Tests.{lt-ltb, le-ltb, eq-eqb}
use lib.Dec.{T, ltb, leb→le}
use lib.IntN.{ℤ}
use lib.Ieee.{Float, nan, inf, fin, Format, prec, emax, low, up, down, odd, units, round, neg, lt, le, level}
use lib.Ieee.Exact.{HasValue}
use lib.Ieee.Fits.{up_pos, down_pos}
use lib.Ieee.Order.{transfer}
use lib.Ieee.Positive.{first_pos}
use Rattle.scaled.proofs.Rounding.{of_value, of_values}
use Rattle.scaled_order.proofs.Comparing.{less_or_level}

-- no NaN, and no minus sign
abbrev pub plus : Float → Bool
plus nan = false
plus (inf s) = not s
plus (fin s m e) = not s

pub value_plus : (p : Float) (a c : ℕ) → HasValue p false a c → plus p ≡ true
value_plus p a c h = of_value (λ (p : Float). plus p ≡ true) p a c h (λ m e k. refl)

-- ---- rounding

odd_sign : (d q k l : ℕ) → (odd d true q k l ≡ neg (odd d false q k l)) × (plus (odd d false q k l) ≡ true)
unfolding odd neg
odd_sign d zero k l = (refl, refl)
odd_sign d (suc q) k l = (refl, refl)

units_sign : (f : Format) (q k : ℕ) → (units f true q k ≡ neg (units f false q k)) × (plus (units f false q k) ≡ true)
unfolding units
units_sign f q k = by (ltb (q * 2 ^ k) (2 ^ (low f + suc (emax f))))
  where
    digits : Bool → Float
    digits s = odd (suc (prec f)) s q k (low f)

    by : (t : Bool) → (cond t (digits true) (inf true) ≡ neg (cond t (digits false) (inf false))) × (plus (cond t (digits false) (inf false)) ≡ true)
    by true = odd_sign (suc (prec f)) q k (low f)
    by false = unfold neg in (refl, refl)

pub round_sign : (f : Format) (a c : ℕ) → (round f true a c ≡ neg (round f false a c)) × (plus (round f false a c) ≡ true)
unfolding round
round_sign f a c = units_sign f _ _

-- ---- the order

pub turned : (p q : Float) → plus p ≡ true → plus q ≡ true → T (le p q) → le (neg q) (neg p) ≡ true
unfolding le neg
turned nan q P Q h = absurd h
turned (inf true) q P Q h = absurd (true≢false (sym P))
turned (inf false) nan P Q h = absurd h
turned (inf false) (inf true) P Q h = absurd h
turned (inf false) (inf false) P Q h = refl
turned (inf false) (fin t n d) P Q h = absurd h
turned (fin true m e) q P Q h = absurd (true≢false (sym P))
turned (fin false m e) nan P Q h = absurd h
turned (fin false m e) (inf true) P Q h = absurd h
turned (fin false m e) (inf false) P Q h = refl
turned (fin false m e) (fin true n d) P Q h = absurd (true≢false (sym Q))
turned (fin false m e) (fin false n d) P Q h =
    let A = m * up e * down d in
    let B = n * up d * down e in
    by A B (leb→le A B (subst T (less_or_level A B) h)) (dec_le B A)
  where
    by : (A B : ℕ) → A ≤ B → Dec (B ≤ A) → ltb A B || level true B true A ≡ true
    by A B l (yes g) = rw (le-ltb A B g, eq-eqb B A (omega arith))
    by A B l (no g) = rw (lt-ltb A B (omega arith))

-- a float without a minus sign, turned, is below one above 0, and that one turned is no more than it
plus_turned : (p : Float) (n : ℕ) (d : ℤ) → 0 < n → plus p ≡ true → (lt (neg p) (fin false n d) ≡ true) × (le (neg (fin false n d)) p ≡ true)
unfolding lt le neg
plus_turned nan n d N P = absurd (true≢false (sym P))
plus_turned (inf true) n d N P = absurd (true≢false (sym P))
plus_turned (inf false) n d N P = (refl, refl)
plus_turned (fin true m e) n d N P = absurd (true≢false (sym P))
plus_turned (fin false m e) n d N P =
    let above : 0 < n * up d * down e = mul-pos (mul-pos N (up_pos d)) (down_pos e) in
    (lt-ltb 0 (m * up e * down d + n * up d * down e) (omega arith), rw (lt-ltb 0 (n * up d * down e + m * up e * down d) (omega arith)))

pub value_turned : (q : Float) (b d : ℕ) → 0 < b → HasValue q false b d → (p : Float) → plus p ≡ true → (lt (neg p) q ≡ true) × (le (neg q) p ≡ true)
value_turned q b d B h p P = of_value (λ (q : Float). (lt (neg p) q ≡ true) × (le (neg q) p ≡ true)) q b d h (λ n e k.
    plus_turned p n e (first_pos n (up e) (first_pos (n * up e) d (rw k (mul-pos B (down_pos e))))) P)

pub values_less : (p q : Float) (a c b d : ℕ) → HasValue p false a c → HasValue q false b d → a * d < b * c → lt p q ≡ true
unfolding lt
values_less p q a c b d h k l =
    of_values (λ (p q : Float). lt p q ≡ true) p q a b c d h k (λ m e n g h k. by m e n g h k (dec_le (n * up g * down e) (m * up e * down g)))
  where
    by : (m : ℕ) (e : ℤ) (n : ℕ) (g : ℤ) → m * up e * c ≡ a * down e → n * up g * d ≡ b * down g → Dec (n * up g * down e ≤ m * up e * down g)
        → ltb (m * up e * down g) (n * up g * down e) ≡ true
    by m e n g h k (yes u) =
        absurd (not-le_of_lt l (transfer b a d c (n * up g) (m * up e) (down g) (down e) (down_pos g) (down_pos e) (sym k) (sym h) u))
    by m e n g h k (no u) = lt-ltb (m * up e * down g) (n * up g * down e) (omega arith)
