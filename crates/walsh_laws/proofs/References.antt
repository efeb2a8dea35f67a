-- From a single number the reference butterflies make a word, by induction over the binary digits, highest first.
use mathlib.Core.Path.{◌≡◌, refl, sym, ◌∙◌, ap, ap₂, subst}
use mathlib.Core.Bool.{Bool, true, false, not, cond}
use mathlib.Core.Logic.{⊎_elim}
use Prim.Native.Nat.{ℕ, zero, suc, ◌+◌, ◌*◌, ◌-◌, ◌<◌, ◌≤◌, ◌^◌, ◌/◌}
use native.Mathlib.Decide.{ℕ_discrete, dec_lt}
use native.Mathlib.Nat.{pow-suc, mul_assoc, mul_comm, add-mul}
use native.Mathlib.Omega.{arith}
use lib.Arith.{digits_div}
use lib.Dec.{eqb}
use lib.IntN.{ℤ, pos, neg_ℤ, ◌+ℤ◌, ◌-ℤ◌, +ℤ_idl, +ℤ_idr}
use borrow.Author.Tests.{eq-eqb, ne_eqb}
use Rattle.walsh.specs.Words.{signed, turned}
use Rattle.walsh.proofs.Signed.{signed_turned}
use Rattle.walsh.proofs.Signs.{minus_in, minus_even, minus_odd, minus_digits, lowest_digit, odd_zero, odd_one}
use Rattle.walsh_laws.specs.Reference.{reference, references, single}
use Rattle.walsh_laws.specs.Laws.{Reference}

-- ---- one butterfly at distance s, on the pair of places e * (s * 2) + r and s after it

module _ (s e : ℕ) where
  even_place : 2 * e * s ≡ e * (s * 2)
  even_place = ap (λ (n : ℕ). n * s) (mul_comm 2 e) ∙ mul_assoc e 2 s ∙ ap (λ (n : ℕ). e * n) (mul_comm 2 s)

  odd_place : (2 * e + 1) * s ≡ e * (s * 2) + s
  odd_place = omega (arith, add-mul (2 * e) 1 s, even_place)

module _ (x : ℕ → ℤ) (s e r : ℕ) (h : r < s) where
  pair_first : reference s x (2 * e * s + r) ≡ x (e * (s * 2) + r) -ℤ x (e * (s * 2) + (s + r))
  unfolding reference
  pair_first =
      rw (digits_div (2 * e) h, odd_zero (2 * e) (omega arith))
      (ap₂ (λ (m n : ℕ). x m -ℤ x n) (omega (arith, even_place s e)) (omega (arith, even_place s e)))

  pair_second : reference s x ((2 * e + 1) * s + r) ≡ x (e * (s * 2) + r) +ℤ x (e * (s * 2) + (s + r))
  unfolding reference
  pair_second =
      rw (digits_div (2 * e + 1) h, odd_one (2 * e + 1) (omega arith))
      (ap₂ (λ (m n : ℕ). x m +ℤ x n) (omega (arith, odd_place s e)) (omega (arith, odd_place s e)))

-- ---- the signs of a digit more

module _ (j c e : ℕ) where
  even_even : minus_in (suc j) (2 * c) (2 * e) ≡ minus_in j c e
  even_even =
      minus_even j (2 * c) e
      ∙ ap₂ (λ (b : Bool) (n : ℕ). turned b (minus_in j n e)) (odd_zero (2 * c) (omega arith)) (let z : 2 * c / 2 ≡ c = omega arith in z)

  odd_even : minus_in (suc j) (2 * c + 1) (2 * e) ≡ not (minus_in j c e)
  odd_even =
      minus_even j (2 * c + 1) e
      ∙ ap₂ (λ (b : Bool) (n : ℕ). turned b (minus_in j n e)) (odd_one (2 * c + 1) (omega arith)) (let z : (2 * c + 1) / 2 ≡ c = omega arith in z)

  even_odd : minus_in (suc j) (2 * c) (2 * e + 1) ≡ minus_in j c e
  even_odd = minus_odd j (2 * c) e ∙ ap (λ (n : ℕ). minus_in j n e) (let z : 2 * c / 2 ≡ c = omega arith in z)

  odd_odd : minus_in (suc j) (2 * c + 1) (2 * e + 1) ≡ minus_in j c e
  odd_odd = minus_odd j (2 * c + 1) e ∙ ap (λ (n : ℕ). minus_in j n e) (let z : (2 * c + 1) / 2 ≡ c = omega arith in z)

-- a number taken from 0, there or not
taken_away : (p m : Bool) (y : ℤ) → pos 0 -ℤ cond p (signed m y) (pos 0) ≡ cond p (signed (not m) y) (pos 0)
taken_away true m y = +ℤ_idl (neg_ℤ (signed m y)) ∙ sym (signed_turned true m y)
taken_away false m y = refl

-- ---- after the butterflies at larger distances

-- of blocks of s places, block e of the first n has y at place low, with the sign of e in a word of j digits
abbrev Blocks : ℕ → ℕ → ℤ → (ℕ → ℤ) → ℕ → ℕ → ℕ → Type 0
Blocks s j y x high low n = (e r : ℕ) → e < n → r < s → x (e * s + r) ≡ cond (eqb r low) (signed (minus_in j high e) y) (pos 0)

-- one more, by the lowest digit of the block
halved : (s j : ℕ) (y : ℤ) (x : ℕ → ℤ) (high low n : ℕ)
    → ((e r : ℕ) → e < n → r < s → reference s x (2 * e * s + r) ≡ cond (eqb r low) (signed (minus_in (suc j) high (2 * e)) y) (pos 0))
    → ((e r : ℕ) → e < n → r < s → reference s x ((2 * e + 1) * s + r) ≡ cond (eqb r low) (signed (minus_in (suc j) high (2 * e + 1)) y) (pos 0))
    → Blocks s (suc j) y (reference s x) high low (n * 2)
halved s j y x high low n f g e r l k =
    ⊎_elim
    (λ p. let q : 2 * (e / 2) ≡ e = omega arith in subst Here q (f (e / 2) r (omega arith) k))
    (λ p. let q : 2 * (e / 2) + 1 ≡ e = omega arith in subst Here q (g (e / 2) r (omega arith) k))
    (lowest_digit e)
  where
    Here : ℕ → Type 0
    Here i = reference s x (i * s + r) ≡ cond (eqb r low) (signed (minus_in (suc j) high i) y) (pos 0)

module _ (s j : ℕ) (y : ℤ) (x : ℕ → ℤ) (high low n : ℕ) (h : Blocks (s * 2) j y x high low n) where
  -- the number stands in the first half of its block
  lower_half : low < s → Blocks s (suc j) y (reference s x) (2 * high) low (n * 2)
  lower_half l =
      halved s j y x (2 * high) low n
      (λ e r g k.
      pair_first x s e r k
      ∙ ap₂ (λ (u v : ℤ). u -ℤ v) (h e r g (omega arith)) (absent e r g k)
      ∙ +ℤ_idr _
      ∙ ap (λ (m : Bool). cond (eqb r low) (signed m y) (pos 0)) (sym (even_even j high e)))
      (λ e r g k.
      pair_second x s e r k
      ∙ ap₂ (λ (u v : ℤ). u +ℤ v) (h e r g (omega arith)) (absent e r g k)
      ∙ +ℤ_idr _
      ∙ ap (λ (m : Bool). cond (eqb r low) (signed m y) (pos 0)) (sym (even_odd j high e)))
    where
      absent : (e r : ℕ) → e < n → r < s → x (e * (s * 2) + (s + r)) ≡ pos 0
      absent e r g k =
          h e (s + r) g (omega arith) ∙ ap (λ (t : Bool). cond t (signed (minus_in j high e) y) (pos 0)) (ne_eqb (s + r) low (λ z. omega arith))

  -- in the second half
  upper_half : s ≤ low → Blocks s (suc j) y (reference s x) (2 * high + 1) (low - s) (n * 2)
  upper_half l =
      halved s j y x (2 * high + 1) (low - s) n
      (λ e r g k.
      pair_first x s e r k
      ∙ ap₂ (λ (u v : ℤ). u -ℤ v) (absent e r g k) (present e r g k)
      ∙ taken_away (eqb r (low - s)) (minus_in j high e) y
      ∙ ap (λ (m : Bool). cond (eqb r (low - s)) (signed m y) (pos 0)) (sym (odd_even j high e)))
      (λ e r g k.
      pair_second x s e r k
      ∙ ap₂ (λ (u v : ℤ). u +ℤ v) (absent e r g k) (present e r g k)
      ∙ +ℤ_idl _
      ∙ ap (λ (m : Bool). cond (eqb r (low - s)) (signed m y) (pos 0)) (sym (odd_odd j high e)))
    where
      absent : (e r : ℕ) → e < n → r < s → x (e * (s * 2) + r) ≡ pos 0
      absent e r g k =
          h e r g (omega arith) ∙ ap (λ (t : Bool). cond t (signed (minus_in j high e) y) (pos 0)) (ne_eqb r low (λ z. omega arith))

      same_test : (r : ℕ) → eqb (s + r) low ≡ eqb r (low - s)
      same_test r = by (ℕ_discrete r (low - s))
        where
          by : Dec (r ≡ low - s) → eqb (s + r) low ≡ eqb r (low - s)
          by (yes e) = eq-eqb (s + r) low (omega arith) ∙ sym (eq-eqb r (low - s) e)
          by (no ne) = ne_eqb (s + r) low (λ z. ne (omega arith)) ∙ sym (ne_eqb r (low - s) ne)

      present : (e r : ℕ) → e < n → r < s → x (e * (s * 2) + (s + r)) ≡ cond (eqb r (low - s)) (signed (minus_in j high e) y) (pos 0)
      present e r g k =
          h e (s + r) g (omega arith) ∙ ap (λ (t : Bool). cond t (signed (minus_in j high e) y) (pos 0)) (same_test r)

-- k more make of them the word whose digits are those of high, and then those of low
word_from : (k j : ℕ) (y : ℤ) (x : ℕ → ℤ) (high low n : ℕ) → low < 2 ^ k → Blocks (2 ^ k) j y x high low n
    → (t : ℕ) → t < n * 2 ^ k → references k x t ≡ signed (minus_in (k + j) (high * 2 ^ k + low) t) y
unfolding references
word_from zero j y x high low n l h t g =
    ap x (let z : t ≡ t * 1 + 0 = omega arith in z)
    ∙ h t 0 (omega arith) (omega arith)
    ∙ ap (λ (p : Bool). cond p (signed (minus_in j high t) y) (pos 0)) (eq-eqb 0 low (omega arith))
    ∙ ap₂ (λ (i c : ℕ). signed (minus_in i c t) y) (let z : j ≡ 0 + j = omega arith in z) (let z : high ≡ high * 1 + low = omega arith in z)
word_from (suc k) j y x high low n l h t g =
    let double : 2 ^ suc k ≡ 2 ^ k * 2 = pow-suc 2 k in
    let blocks : Blocks (2 ^ k * 2) j y x high low n = rw double at h in
    let whole : high * 2 ^ suc k ≡ high * (2 ^ k * 2) = ap (λ (i : ℕ). high * i) double in
    let inside : t < n * 2 * 2 ^ k = omega (arith, mul_assoc n 2 (2 ^ k), ap (λ (i : ℕ). n * i) (mul_comm 2 (2 ^ k)), ap (λ (i : ℕ). n * i) double) in
    let digits : k + suc j ≡ suc k + j = omega arith in
    elim (dec_lt low (2 ^ k)) [
      | yes d ↦
          word_from k (suc j) y (reference (2 ^ k) x) (2 * high) low (n * 2) d (lower_half (2 ^ k) j y x high low n blocks d) t inside
          ∙ ap₂ (λ (i c : ℕ). signed (minus_in i c t) y) digits (omega (arith, even_place (2 ^ k) high))
      | no d ↦
          word_from k (suc j) y (reference (2 ^ k) x) (2 * high + 1) (low - 2 ^ k) (n * 2) (omega arith)
          (upper_half (2 ^ k) j y x high low n blocks (omega arith)) t inside
          ∙ ap₂ (λ (i c : ℕ). signed (minus_in i c t) y) digits (omega (arith, odd_place (2 ^ k) high))
    ]

pub reference_law : Reference
unfolding single minus_in
reference_law = record {
  word = λ c t y hc ht.
      word_from 6 0 y (single c y) 0 c 1 hc
      (λ e r l k. ap (λ (i : ℕ). cond (eqb i c) y (pos 0)) (let z : e * 64 + r ≡ r = omega arith in z)) t (omega arith)
      ∙ ap (λ (m : Bool). signed m y) (ap (λ (i : ℕ). minus_in 6 i t) (let z : 0 * 64 + c ≡ c = omega arith in z) ∙ sym (minus_digits c t ht));
}
