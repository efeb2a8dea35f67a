-- A number put before a place of a text, as the part of the text that begins with it.
use mathlib.Core.Path.{◌≡◌, refl, sym, ◌∙◌}
use mathlib.Core.List.{List, [], ◌∷◌, ◌++◌, append_assoc, append-nil}
use Prim.Native.Nat.{ℕ, suc, ◌+◌, ◌-◌, ◌<◌, ◌≤◌}
use native.Mathlib.Omega.{arith}
use lib.IntN.{ℤ, pos, negsuc, nat_abs}
use lib.ListN.{length, take, drop, set, replicate, length-append, length-replicate, get_or-replicate}
use lib.Seq.{take_all, take-suc, take-set-le, drop_at, length-take-le}
use Rattle.text.specs.Ascii.{hyphen}
use Rattle.text.specs.Decimal.{sign, decimal, signed_decimal, field, signed_field}
use Rattle.text.proofs.Signs.{sign_short}

part_rest : (spare rest text : List ℕ) (from size : ℕ) → from ≤ length spare → from + length rest ≡ size → text ≡ take from spare ++ rest
    → take (size - from) (drop from text) ≡ rest
part_rest spare rest text from size h k e =
    rw (e, drop_at (take from spare) rest from (length-take-le from spare h)) (take_all (size - from) rest (omega arith))

module _ (spare text : List ℕ) (n r count : ℕ) (place : r + length (decimal n) ≡ count) (within : count ≤ length spare) where
  pub field_part : (end : ℕ) → text ≡ take r spare ++ (decimal n ++ (end ∷ [])) → take (suc count - r) (drop r text) ≡ field n end
  unfolding field
  field_part end = part_rest spare (decimal n ++ (end ∷ [])) text r (suc count) (omega arith) (omega (arith, length-append (decimal n) (end ∷ [])))

-- ---- with a sign, which is the last of the minuses before it

sign_before : (z : ℤ) (count r : ℕ) → 0 < r → r ≤ count → take r (replicate count hyphen) ≡ take (r - length (sign z)) (replicate count hyphen) ++ sign z
sign_before (pos n) count r some h =
    let same : r - 0 ≡ r = omega arith in
    rw same (sym (append-nil (take r (replicate count hyphen))))
sign_before (negsuc n) count r some h =
    let next : suc (r - 1) ≡ r = omega arith in
    let step = take-suc (replicate count hyphen) (r - 1) 0 (rw length-replicate (omega arith)) in
    rw (next, get_or-replicate count (r - 1) hyphen 0 (omega arith)) at step

module _ (z : ℤ) (end count r : ℕ) (place : r + length (decimal (nat_abs z)) ≡ count) (some : 0 < r) where
  abbrev minuses : List ℕ
  minuses = replicate (suc count) hyphen

  abbrev from : ℕ
  from = r - length (sign z)

  before : take r (set minuses count end) ≡ take from minuses ++ sign z
  before = take-set-le r minuses count end (omega arith) ∙ sign_before z (suc count) r some (omega arith)

  pub signed_field_part : (text : List ℕ) → text ≡ take r (set minuses count end) ++ (decimal (nat_abs z) ++ (end ∷ []))
      → take (suc count - from) (drop from text) ≡ signed_field z end
  unfolding signed_field signed_decimal
  signed_field_part text e =
      let digits = decimal (nat_abs z) in
      let whole : text ≡ take from minuses ++ ((sign z ++ digits) ++ (end ∷ [])) = rw (e, before, append_assoc (take from minuses), append_assoc (sign z)) refl in
      let size : from + length ((sign z ++ digits) ++ (end ∷ [])) ≡ suc count =
      omega (arith, sign_short z, length-append (sign z ++ digits) (end ∷ []), length-append (sign z) digits) in
      part_rest minuses ((sign z ++ digits) ++ (end ∷ [])) text from (suc count) (omega (arith, length-replicate (suc count) hyphen)) size whole
