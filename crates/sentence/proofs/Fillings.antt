-- A pattern with its place and lead put in: byte by byte, and how long it is.
use mathlib.Core.Path.{◌≡◌, refl, sym, ◌∙◌, ap}
use mathlib.Core.Bool.{Bool, true, false, cond}
use mathlib.Core.List.{List, [], ◌∷◌, ◌++◌, append_assoc, append-nil}
use Prim.Native.Nat.{ℕ, ◌+◌, ◌<◌, ◌≤◌, ◌^◌}
use native.Mathlib.Numerals.{add-one}
use native.Mathlib.Omega.{arith}
use Rattle.std.proofs.Common.{sum_by}
use Rattle.std.proofs.lemmas.List.Sums.{sum_by-cons}
use lib.Dec.{eqb}
use lib.ListN.{length, take, drop, get_or, length-append, take-append-drop}
use lib.Seq.{take-suc}
use Rattle.text.specs.Decimal.{decimal}
use Rattle.text.proofs.Decimals.{decimal_short}
use Rattle.sentence.specs.Patterns.{place_mark, lead_mark, piece_text, filled}

module _ (place lead : ℕ) where
  -- ---- one byte

  pub text_short : (p : ℕ) → place < 2 ^ 64 → lead < 2 ^ 64 → length (piece_text place lead p) ≤ 20
  unfolding piece_text
  text_short p hp hl = by (eqb p place_mark) (eqb p lead_mark)
    where
      by : (s t : Bool) → length (cond s (decimal place) (cond t (decimal lead) (p ∷ []))) ≤ 20
      by true t = decimal_short place hp
      by false true = decimal_short lead hl
      by false false = omega arith

  -- ---- all of them

  pub filled_sum : (ps : List ℕ) → sum_by (λ p. length (piece_text place lead p)) ps ≡ length (filled place lead ps)
  unfolding filled
  filled_sum [] = refl
  filled_sum (p ∷ ps) =
      sum_by-cons (λ q. length (piece_text place lead q)) p ps
      ∙ ap (λ n. length (piece_text place lead p) + n) (filled_sum ps)
      ∙ sym (length-append (piece_text place lead p) (filled place lead ps))

  pub filled_append : (xs ys : List ℕ) → filled place lead (xs ++ ys) ≡ filled place lead xs ++ filled place lead ys
  unfolding filled
  filled_append [] ys = refl
  filled_append (x ∷ xs) ys =
      ap (λ (t : List ℕ). piece_text place lead x ++ t) (filled_append xs ys)
      ∙ sym (append_assoc (piece_text place lead x) (filled place lead xs) (filled place lead ys))

  module _ (ps : List ℕ) (i : ℕ) where
    pub filled_more : i < length ps → filled place lead (take (i + 1) ps) ≡ filled place lead (take i ps) ++ piece_text place lead (get_or ps i 0)
    unfolding filled
    filled_more h =
        ap (λ (n : ℕ). filled place lead (take n ps)) (add-one i)
        ∙ ap (filled place lead) (take-suc ps i 0 h)
        ∙ filled_append (take i ps) (get_or ps i 0 ∷ [])
        ∙ ap (λ (t : List ℕ). filled place lead (take i ps) ++ t) (append-nil (piece_text place lead (get_or ps i 0)))

    -- what the bytes passed and the next one take is no more than the whole
    pub filled_room : i < length ps → length (filled place lead (take i ps)) + length (piece_text place lead (get_or ps i 0)) ≤ length (filled place lead ps)
    filled_room h =
        let halves : filled place lead ps ≡ filled place lead (take (i + 1) ps) ++ filled place lead (drop (i + 1) ps) =
        ap (filled place lead) (sym (take-append-drop (i + 1) ps)) ∙ filled_append (take (i + 1) ps) (drop (i + 1) ps) in
        omega (
          arith,
          ap length halves,
          length-append (filled place lead (take (i + 1) ps)) (filled place lead (drop (i + 1) ps)),
          ap length (filled_more h),
          length-append (filled place lead (take i ps)) (piece_text place lead (get_or ps i 0)),
        )
