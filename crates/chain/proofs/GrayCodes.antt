-- The Gray code and its table undo each other, over any number of binary digits.
use mathlib.Core.Path.{◌≡◌, refl, sym, ◌∙◌, ap}
use mathlib.Core.Bool.{Bool, true, false, ◌&&◌, false≢true}
use mathlib.Core.List.{List}
use Prim.Native.Nat.{ℕ, zero, suc, ◌+◌, ◌*◌, ◌<◌, ◌≤◌, ◌^◌, ◌/◌, ◌%◌}
use native.Mathlib.Decide.{dec_lt}
use native.Mathlib.Nat.{pow-suc}
use native.Mathlib.Omega.{arith}
use borrow.Author.Tests.{ltb-true, eqb-true, eq-eqb, ne_eqb}
use lib.Bits.{xor_lt, xor_shr, xor_add_and}
use lib.Dec.{T, ltb, eqb, eqb→eq}
use lib.ListN.{length, get_or}
use lib.Pow.{pow_mono}
use Rattle.lists.specs.Lists.{tab}
use Rattle.lists.specs.Laws.{IsFirst}
use Rattle.lists.proofs.Tables.{is_tab}
use Rattle.lists.proofs.Places.{first_is}
use Rattle.lists.proofs.Tabled.{every_at, every_entry}
use Rattle.chain.specs.Chain.{gray}
use Rattle.chain.specs.Tables.{symbol_of}
use Rattle.chain.specs.Laws.{GrayCode}

-- ---- the Gray code, digit by digit

gray_half : (s : ℕ) → gray s / 2 ≡ gray (s / 2)
unfolding gray
gray_half s = xor_shr s (s / 2) 1

gray_lowest : (s : ℕ) → (gray s + s / 2) % 2 ≡ s % 2
unfolding gray
gray_lowest s = omega (arith, xor_add_and s (s / 2))

pub gray_below : (b s : ℕ) → s < 2 ^ b → gray s < 2 ^ b
unfolding gray
gray_below b s h = xor_lt b s (s / 2) h (omega arith)

gray_same : (k s u : ℕ) → s < 2 ^ k → u < 2 ^ k → gray s ≡ gray u → s ≡ u
gray_same zero s u h l e = omega arith
gray_same (suc k) s u h l e =
    let p : 2 ^ suc k ≡ 2 ^ k * 2 = pow-suc 2 k in
    let halves : s / 2 ≡ u / 2 = gray_same k (s / 2) (u / 2) (omega arith) (omega arith) (sym (gray_half s) ∙ ap (λ (g : ℕ). g / 2) e ∙ gray_half u) in
    let lowest : s % 2 ≡ u % 2 = sym (gray_lowest s) ∙ rw (e, halves) (gray_lowest u) in
    omega arith

-- the number of k digits whose Gray code is g
unfoldable ungray : ℕ → ℕ → ℕ
ungray zero g = 0
ungray (suc k) g = ungray k (g / 2) * 2 + (g + ungray k (g / 2)) % 2

ungray_below : (k g : ℕ) → ungray k g < 2 ^ k
unfolding ungray
ungray_below zero g = omega arith
ungray_below (suc k) g = omega (arith, ungray_below k (g / 2), pow-suc 2 k)

same_digits : (x y h : ℕ) → x / 2 ≡ y / 2 → (x + h) % 2 ≡ (y + h) % 2 → x ≡ y
same_digits x y h p q = omega arith

gray_ungray : (k g : ℕ) → g < 2 ^ k → gray (ungray k g) ≡ g
unfolding ungray
gray_ungray zero g h = omega (arith, gray_below 0 0 (omega arith))
gray_ungray (suc k) g h =
    let p : 2 ^ suc k ≡ 2 ^ k * 2 = pow-suc 2 k in
    let s = ungray (suc k) g in
    let half : s / 2 ≡ ungray k (g / 2) = omega arith in
    same_digits (gray s) g (s / 2)
    (gray_half s ∙ ap gray half ∙ gray_ungray k (g / 2) (omega arith))
    (gray_lowest s ∙ rw half (omega arith))

-- ---- the symbol of a tone

module _ (g : ℕ) where
  symbol_first : IsFirst (λ s. eqb (gray s) g) 256 (symbol_of g)
  unfolding symbol_of
  symbol_first = first_is (λ s. eqb (gray s) g) 256

  -- a symbol whose Gray code is the tone is the symbol of the tone
  symbol_found : (s : ℕ) → s < 256 → gray s ≡ g → symbol_of g ≡ s
  symbol_found s h e = by (dec_lt s (symbol_of g))
    where
      by : Dec (s < symbol_of g) → symbol_of g ≡ s
      by (yes l) = absurd (false≢true (sym (symbol_first.lowest s l) ∙ eq-eqb (gray s) g e))
      by (no n) =
          let l : symbol_of g < 256 = omega arith in
          gray_same 8 (symbol_of g) s l h (eqb-true (gray (symbol_of g)) g (symbol_first.holds l) ∙ sym e)

  pub symbol_marked : eqb (symbol_of g) 65535 ≡ false
  symbol_marked = ne_eqb (symbol_of g) 65535 (λ e. omega (arith, symbol_first.within))

symbol_digits : (b g : ℕ) → b ≤ 8 → g < 2 ^ b → symbol_of g ≡ ungray b g
symbol_digits b g l h = symbol_found g (ungray b g) (omega (arith, ungray_below b g, pow_mono l)) (gray_ungray b g h)

pub symbol_below : (b g : ℕ) → b ≤ 8 → g < 2 ^ b → symbol_of g < 2 ^ b
symbol_below b g l h = rw (symbol_digits b g l h) (ungray_below b g)

pub gray_code : GrayCode
gray_code = record {
  tone_of_symbol = λ g h. rw (symbol_digits 8 g (omega arith) h) (gray_ungray 8 g h);
  symbol_of_tone = λ s h. symbol_found (gray s) s h refl;
}

-- ---- the table

-- the Gray code of the entry at place g is g
abbrev pub entry : ℕ → ℕ → Bool
entry g s = ltb s 256 && eqb (gray s) g

table_symbol : (table : List ℕ) → T (every_at entry 0 table) → (g : ℕ) → g < length table → get_or table g 0 ≡ symbol_of g
table_symbol table t g h = by (ltb (get_or table g 0) 256) refl (every_entry entry table t g h)
  where
    by : (b : Bool) → ltb (get_or table g 0) 256 ≡ b → T (b && eqb (gray (get_or table g 0)) g) → get_or table g 0 ≡ symbol_of g
    by true l e = sym (symbol_found g (get_or table g 0) (ltb-true (get_or table g 0) 256 l) (eqb→eq (gray (get_or table g 0)) g e))
    by false l e = absurd e

pub symbol_table : (table : List ℕ) → length table ≡ 256 → T (every_at entry 0 table) → table ≡ tab symbol_of 256
symbol_table table n t = is_tab symbol_of 0 256 table n (λ g h. table_symbol table t g (omega arith))
