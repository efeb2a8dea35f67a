-- A text put into a part of the output, after other text.
use mathlib.Core.Path.{◌≡◌, sym, ◌∙◌, ap}
use mathlib.Core.List.{List, ◌++◌, append_assoc}
use Prim.Native.Nat.{ℕ, ◌+◌, ◌≤◌}
use native.Mathlib.Omega.{arith}
use lib.ListN.{length, take, drop, length-append, length-take, take-append-drop}
use lib.Seq.{drop-append-le}
use Rattle.lists.specs.Lists.{over}
use Rattle.lists.proofs.Fronts.{over_after, over_fits}
use Rattle.text.proofs.Puts.{Put}

-- a front of the first n bytes is a front of all
front_of_part : (text out : List ℕ) (n : ℕ) → length text ≤ length (take n out) → over text (take n out) ++ drop n out ≡ over text out
unfolding over
front_of_part text out n h =
    append_assoc text (drop (length text) (take n out)) (drop n out)
    ∙ ap (λ (x : List ℕ). text ++ x) (sym (drop-append-le (length text) (take n out) (drop n out) h) ∙ ap (drop (length text)) (take-append-drop n out))

module _ (text out : List ℕ) (n : ℕ) {k : ℕ} {after : List ℕ} (put : Put text (take n out) k after) (same : length after ≡ length (take n out)) where
  text_fits : length text ≤ length (take n out)
  text_fits = omega (arith, same, ap length put.1, over_fits text (take n out))

  -- what was put has room in the part
  pub put_within_part : k ≤ n
  put_within_part = omega (arith, put.0, text_fits, length-take n out)

  pub put_front : Put text out k (after ++ drop n out)
  put_front = (put.0, ap (λ (x : List ℕ). x ++ drop n out) put.1 ∙ front_of_part text out n text_fits)

-- a text after another, put into a part of what is left
pub put_part : (a out : List ℕ) {p : ℕ} (x : List ℕ) → Put a out p x → (b : List ℕ) (n : ℕ) {k : ℕ} {after : List ℕ}
    → Put b (take n (drop p x)) k after → length after ≡ length (take n (drop p x)) → Put (a ++ b) out (p + k) (take p x ++ (after ++ drop n (drop p x)))
put_part a out {p} x first b n put same =
    let front = put_front b (drop p x) n put same in (
      omega (arith, first.0, front.0, length-append a b),
      ap (λ (l : List ℕ). take p x ++ l) front.1 ∙ over_after a b out x p (sym first.0) first.1,
    )
