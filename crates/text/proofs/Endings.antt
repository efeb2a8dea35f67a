-- One digit put before a place of a text: what stands from there on, and that what stands before is kept.
use mathlib.Core.Path.{◌≡◌, sym, ◌∙◌, ap}
use mathlib.Core.List.{List, [], ◌∷◌, ◌++◌, append_assoc}
use Prim.Native.Nat.{ℕ, suc, ◌+◌, ◌-◌, ◌<◌, ◌≤◌, ◌/◌, ◌%◌}
use native.Mathlib.Omega.{arith}
use lib.ListN.{length, set, take, drop, take-append-drop, length-drop, length-set}
use lib.Seq.{lt-length-set, drop-cons, get_or-set_same, drop-set-lt, take-set-le, take-take}
use Rattle.text.specs.Decimal.{decimal}
use Rattle.text.proofs.Decimals.{decimal_small, decimal_more}

module _ (text : List ℕ) (from : ℕ) (some : 0 < from) (within : from ≤ length text) where
  one_before : (v : ℕ) → drop (from - 1) (set text (from - 1) v) ≡ v ∷ drop from text
  one_before v =
      let next : suc (from - 1) ≡ from = omega arith in
      let room : from - 1 < length text = omega arith in
      drop-cons (set text (from - 1) v) (from - 1) 0 (lt-length-set text (from - 1) v room)
      ∙ (rw (get_or-set_same text (from - 1) v 0 room, drop-set-lt (suc (from - 1)) text (from - 1) v (omega arith), next))

  pub front_kept : (start : List ℕ) → take from text ≡ take from start → (v : ℕ) → take (from - 1) (set text (from - 1) v) ≡ take (from - 1) start
  front_kept start e v =
      take-set-le (from - 1) text (from - 1) v (omega arith)
      ∙ sym (take-take (from - 1) from text (omega arith))
      ∙ ap (take (from - 1)) e
      ∙ take-take (from - 1) from start (omega arith)

  module _ (all : List ℕ) (left : ℕ) (made : all ≡ decimal left ++ drop from text) where
    pub digit_more : 10 ≤ left → all ≡ decimal (left / 10) ++ drop (from - 1) (set text (from - 1) (48 + left % 10))
    digit_more h =
        made
        ∙ ap (λ (x : List ℕ). x ++ drop from text) (decimal_more left h)
        ∙ append_assoc (decimal (left / 10)) ((48 + left % 10) ∷ []) (drop from text)
        ∙ ap (λ (x : List ℕ). decimal (left / 10) ++ x) (sym (one_before (48 + left % 10)))

    module _ (h : left < 10) where
      digit_first : drop (from - 1) (set text (from - 1) (48 + left)) ≡ all
      digit_first = one_before (48 + left) ∙ sym (made ∙ ap (λ (x : List ℕ). x ++ drop from text) (decimal_small left h))

      pub first_place : from - 1 + length all ≡ length text
      first_place =
          omega (
            arith,
            ap length digit_first,
            length-drop (from - 1) (set text (from - 1) (48 + left)),
            length-set text (from - 1) (48 + left),
          )

      pub ended : (start : List ℕ) → take from text ≡ take from start → set text (from - 1) (48 + left) ≡ take (from - 1) start ++ all
      ended start e =
          let text' = set text (from - 1) (48 + left) in
          sym (take-append-drop (from - 1) text')
          ∙ ap (λ (x : List ℕ). x ++ drop (from - 1) text') (front_kept start e (48 + left))
          ∙ ap (λ (x : List ℕ). take (from - 1) start ++ x) digit_first
