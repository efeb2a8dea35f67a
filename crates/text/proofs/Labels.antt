-- A label put before a field that was put after the label's place.
use mathlib.Core.Path.{◌≡◌, refl, sym, ◌∙◌, ap}
use mathlib.Core.List.{List, [], ◌++◌, append-nil, append_assoc}
use Prim.Native.Nat.{ℕ, ◌+◌, ◌-◌, ◌<◌, ◌≤◌}
use native.Mathlib.Decide.{dec_le}
use native.Mathlib.Omega.{arith}
use lib.ListN.{length, take, drop, length-append, length-drop, drop_of_length-le, take-append-drop}
use lib.Seq.{drop_at, drop-drop, length-take-le}
use borrow.Author.Rules.{part_to_end}
use Rattle.lists.specs.Lists.{over}
use Rattle.lists.proofs.Fronts.{over_none}
use Rattle.text.proofs.Writing.{Put, written_whole, written_none}

put_none : (text out : List ℕ) → length out < length text → Put text out 0 out
put_none text out h = rw (written_none text (length out) h) (refl, over_none out)

put_whole : (text out : List ℕ) {r : ℕ} {after : List ℕ} → length text ≤ length out → r ≡ length text → after ≡ over text out → Put text out r after
put_whole text out h e f = rw (written_whole text (length out) h) (e, f)

module _ (label field out : List ℕ) where
  pub label_short : length out < length label → Put (label ++ field) out 0 out
  label_short h = put_none (label ++ field) out (omega (arith, length-append label field))

  module _ (some : 1 ≤ length field) (room : length label ≤ length out) where
    abbrev rest : List ℕ
    rest = take (length out - length label) (drop (length label) out)

    rest_size : length rest ≡ length out - length label
    rest_size = ap length (part_to_end out (length label)) ∙ length-drop (length label) out

    module _ {r : ℕ} {y : List ℕ} (put : Put field rest r y) where
      abbrev after : List ℕ
      after = take (length label) out ++ (y ++ drop (length out - length label) (drop (length label) out))

      after_is : after ≡ take (length label) out ++ y
      after_is =
          let none : drop (length out - length label) (drop (length label) out) ≡ [] =
          drop_of_length-le (drop (length label) out) {i = length out - length label} (omega (arith, length-drop (length label) out)) in
          ap (λ (x : List ℕ). take (length label) out ++ (y ++ x)) none ∙ ap (λ (x : List ℕ). take (length label) out ++ x) (append-nil y)

      pub field_short : r ≡ 0 → Put (label ++ field) out 0 after
      field_short e = by (dec_le (length field) (length rest))
        where
          by : Dec (length field ≤ length rest) → Put (label ++ field) out 0 after
          by (yes l) = absurd (omega (arith, put.0, ap length (written_whole field (length rest) l)))
          by (no g) =
              let same : after ≡ out =
              after_is
              ∙ ap (λ (x : List ℕ). take (length label) out ++ x)
              (put.1 ∙ ap (λ (x : List ℕ). over x rest) (written_none field (length rest) (omega arith)) ∙ sym (over_none rest) ∙ part_to_end out (length label))
              ∙ take-append-drop (length label) out in
              rw same (put_none (label ++ field) out (omega (arith, length-append label field, rest_size)))

      module _ (fits : r ≡ 0 → ⊥) where
        field_fits : length field ≤ length rest
        field_fits = by (dec_le (length field) (length rest))
          where
            by : Dec (length field ≤ length rest) → length field ≤ length rest
            by (yes l) = l
            by (no g) = absurd (fits (put.0 ∙ ap length (written_none field (length rest) (omega arith))))

        field_size : r ≡ length field
        field_size = put.0 ∙ ap length (written_whole field (length rest) field_fits)

        pub label_put : {q : ℕ} {z : List ℕ} → Put label after q z → Put (label ++ field) out (r + q) z
        unfolding over
        label_put {q} {z} (e, f) =
            let field-over : y ≡ field ++ drop (length field) (drop (length label) out) =
            put.1 ∙ ap (λ (x : List ℕ). over x rest) (written_whole field (length rest) field_fits) ∙ ap (over field) (part_to_end out (length label)) in
            let left : drop (length label) after ≡ y =
            ap (drop (length label)) after_is ∙ drop_at (take (length label) out) y (length label) (length-take-le (length label) out room) in
            let size : length label ≤ length after = omega (arith, ap length after_is, length-append (take (length label) out) y, length-take-le (length label) out room) in
            let whole = written_whole label (length after) size in
            let tail : drop (length field) (drop (length label) out) ≡ drop (length (label ++ field)) out = rw (drop-drop, length-append) refl in
            put_whole (label ++ field) out (omega (arith, length-append label field, rest_size, field_fits))
            (omega (arith, field_size, ap length whole, length-append label field))
            (f
            ∙ ap (λ (x : List ℕ). over x after) whole
            ∙ ap (λ (x : List ℕ). label ++ x) (left ∙ field-over ∙ ap (λ (x : List ℕ). field ++ x) tail)
            ∙ sym (append_assoc label field (drop (length (label ++ field)) out)))
