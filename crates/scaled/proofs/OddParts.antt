-- A value that a format holds is written in one way, with an odd significand: two that are the same fraction are one.
use mathlib.Core.Path.{◌≡◌, refl, sym, ap, ◌∙◌}
use mathlib.Core.Bool.{Bool, ◌&&◌}
use Prim.Native.Nat.{ℕ, zero, suc, pred, ◌*◌, ◌%◌, ◌^◌, ◌<◌}
use native.Mathlib.Nat.{mul-one, zero-mul, mul_assoc, mul-pos, pow-suc, zero-lt-suc}
use native.Mathlib.Omega.{arith}
use lib.Dec.{T, eqb, leb, ltb, eqb→eq}
use lib.IntN.{ℤ, pos, negsuc}
use lib.Ieee.{Float, nan, inf, fin, Format, prec, emax, low, up, down, fits}
use lib.Ieee.Exact.{HasValue}
use lib.Ieee.Fits.{and_l, up_pos, down_pos}
use Rattle.scaled.proofs.Rounding.{cross}

-- ---- an odd number times a power of two

doubled : (n a : ℕ) → n * 2 ^ suc a ≡ n * 2 ^ a * 2
doubled n a = ap (λ (z : ℕ). n * z) (pow-suc 2 a) ∙ sym (mul_assoc n (2 ^ a) 2)

one_way : (m n a b : ℕ) → m % 2 ≡ 1 → n % 2 ≡ 1 → m * 2 ^ a ≡ n * 2 ^ b → (m ≡ n) × (a ≡ b)
one_way m n zero zero o p h = (omega arith, refl)
one_way m n zero (suc b) o p h = absurd (omega (arith, doubled n b))
one_way m n (suc a) zero o p h = absurd (omega (arith, doubled m a))
one_way m n (suc a) (suc b) o p h =
    let r = one_way m n a b o p (omega (arith, doubled m a, doubled n b)) in
    (r.0, ap suc r.1)

one_float : (m n : ℕ) (e g : ℤ) → m % 2 ≡ 1 → n % 2 ≡ 1 → m * up e * down g ≡ n * up g * down e → (m ≡ n) × (e ≡ g)
one_float m n (pos a) (pos b) o p h =
    let r = one_way m n a b o p (omega arith) in
    (r.0, ap pos r.1)
one_float m n (pos a) (negsuc b) o p h = absurd (omega (arith, doubled (m * 2 ^ a) b))
one_float m n (negsuc a) (pos b) o p h = absurd (omega (arith, doubled (n * 2 ^ b) a))
one_float m n (negsuc a) (negsuc b) o p h =
    let r = one_way m n (suc b) (suc a) o p (rw (mul-one m, mul-one n) at h) in
    (r.0, ap negsuc (ap pred (sym r.1)))

-- ---- a value that fits: its significand is odd, or it is 0 with the exponent 0

odd-fits : (f : Format) (s : Bool) (m : ℕ) (e : ℤ) → T (fits f (fin s (suc m) e)) → suc m % 2 ≡ 1
unfolding fits
odd-fits f s m e t =
    let odd = eqb (suc m % 2) 1 in
    let small = ltb (suc m) (2 ^ prec f) in
    let fine = leb (down e) (2 ^ low f) in
    let below = ltb (suc m * up e) (2 ^ suc (emax f) * down e) in
    eqb→eq (suc m % 2) 1 (and_l odd small (and_l (odd && small) fine (and_l (odd && small && fine) below t)))

zero_exponent : (e : ℤ) → up e * down e ≡ 1 → e ≡ pos 0
zero_exponent (pos zero) h = refl
zero_exponent (pos (suc a)) h = absurd (omega (arith, doubled 1 a))
zero_exponent (negsuc a) h = absurd (omega (arith, doubled 1 a))

pub zero_fits : (f : Format) (s : Bool) (e : ℤ) → T (fits f (fin s zero e)) → e ≡ pos 0
unfolding fits
zero_fits f s e t = zero_exponent e (eqb→eq (up e * down e) 1 t)

-- ---- two that are the same fraction

-- a significand above 0 is not the fraction 0
not_zero : (m : ℕ) (e g : ℤ) → suc m * up e * down g ≡ zero * up g * down e → ⊥
not_zero m e g h =
    let above : 0 < suc m * up e * down g = mul-pos (mul-pos (zero-lt-suc m) (up_pos e)) (down_pos g) in
    let nothing : zero * up g * down e ≡ 0 = rw (zero-mul (up g)) (zero-mul (down e)) in
    omega arith

pub one_value : (f : Format) (x y : Float) (s : Bool) (a c : ℕ) → 0 < c → T (fits f x) → T (fits f y) → HasValue x s a c → HasValue y s a c → x ≡ y
one_value f nan y s a c C p q v w = absurd v
one_value f (inf t) y s a c C p q v w = absurd v
one_value f (fin t m e) nan s a c C p q v w = absurd w
one_value f (fin t m e) (inf u) s a c C p q v w = absurd w
one_value f (fin t zero e) (fin u zero g) s a c C p q v w =
    λ i. fin ((v.0 ∙ sym w.0) i) zero ((zero_fits f t e p ∙ sym (zero_fits f u g q)) i)
one_value f (fin t zero e) (fin u (suc n) g) s a c C p q v w =
    absurd (not_zero n g e (cross (suc n * up g) (zero * up e) (down g) (down e) a c C w.1 v.1))
one_value f (fin t (suc m) e) (fin u zero g) s a c C p q v w =
    absurd (not_zero m e g (cross (suc m * up e) (zero * up g) (down e) (down g) a c C v.1 w.1))
one_value f (fin t (suc m) e) (fin u (suc n) g) s a c C p q v w =
    let same = one_float (suc m) (suc n) e g (odd-fits f t m e p) (odd-fits f u n g q)
    (cross (suc m * up e) (suc n * up g) (down e) (down g) a c C v.1 w.1) in
    λ i. fin ((v.0 ∙ sym w.0) i) (same.0 i) (same.1 i)
