-- The digits of the magnitude are put after minuses, and before the byte that follows.
use mathlib.Core.Path.{◌≡◌, ◌∙◌, ap}
use mathlib.Core.List.{List, [], ◌∷◌, ◌++◌}
use Prim.Native.Nat.{ℕ, ◌+◌, ◌-◌, ◌<◌, ◌≤◌}
use native.Mathlib.Omega.{arith}
use lib.IntN.{ℤ, pos, nat_abs}
use lib.ListN.{length, take, drop, set, replicate}
use lib.Signed.{lt_z, nat_abs-le}
use mir.Syntax.{w32}
use mir.Val.{SFits, to_z, of_z, bool_byte}
use mir.Facts.{to_z-of_z}
use Rattle.text.specs.Ascii.{hyphen}
use Rattle.text.specs.Decimal.{sign, decimal, signed_field}
use Rattle.text.proofs.Decimals.{decimal_short_32}
use Rattle.text.proofs.Parts.{signed_field_part}
use Rattle.text.proofs.Signs.{sign_short, minus_size}
use Rattle.text.proofs.Writing.{put_as}
use Rattle.text.proofs.put_signed_field.Goals as goal

module _ (z : ℤ) (end r m : ℕ) (text : List ℕ) (fit : SFits w32 z) (size : m ≡ nat_abs (to_z w32 (of_z w32 z))) where
  same : m ≡ nat_abs z
  same = size ∙ ap nat_abs (to_z-of_z fit)

  module _ (begins : r + length (decimal m) ≡ 21) where
    sum : r + length (decimal (nat_abs z)) ≡ 21
    sum = rw same at begins

    some : 0 < r
    some = omega (arith, sum, decimal_short_32 (nat_abs z) (omega (arith, nat_abs-le z fit.sfits)))

    module _ (k : ℕ) (minus : k ≡ bool_byte (lt_z (to_z w32 (of_z w32 z)) (pos 0))) where
      minus_is : k ≡ length (sign z)
      minus_is = minus ∙ minus_size z fit

      within : k ≤ r
      within = omega (arith, some, minus_is, sign_short z)

      part : text ≡ take r (set (replicate 22 hyphen) 21 end) ++ (decimal m ++ (end ∷ [])) → take (22 - (r - k)) (drop (r - k) text) ≡ signed_field z end
      part put = rw minus_is (signed_field_part z end 21 r sum some text (rw same at put))

pub overflow_sub-from : goal.overflow_sub-from
overflow_sub-from c =
    let a = c.args in
    let before = c.put_before in
    within a.n a.end before.result c.from.result before.new.text c.ranges.n (c.from.ensures ∙ c.unsigned_abs.ensures.value) before.ensures.answer c.from-2.result c.from-2.ensures

pub returns : goal.returns
returns c =
    let a = c.args in
    let before = c.put_before in
    let put = c.put_text.ensures in
    let shown = part a.n a.end before.result c.from.result before.new.text c.ranges.n (c.from.ensures ∙ c.unsigned_abs.ensures.value) before.ensures.answer c.from-2.result c.from-2.ensures before.ensures.output in
    let same = put_as a.out.now (put.answer, put.output) shown in record { answer = same.0; output = same.1 }
