-- Texts put at the front of an output, one after another.
use mathlib.Core.Path.{◌≡◌, refl, sym, ◌∙◌, ap, subst}
use mathlib.Core.List.{List, [], ◌++◌, append-nil}
use Prim.Native.Nat.{ℕ, ◌+◌, ◌-◌, ◌≤◌}
use native.Mathlib.Omega.{arith}
use lib.ListN.{length, take, drop, length-append, length-drop, drop_of_length-le}
use borrow.Author.Rules.{part_to_end}
use Rattle.lists.specs.Lists.{over}
use Rattle.lists.proofs.Fronts.{over_none, over_after, over_length}
use Rattle.text.specs.Written.{written}
use Rattle.text.proofs.Writing.{written_whole}

-- what a function that puts a text answers and leaves
abbrev pub Put : List ℕ → List ℕ → ℕ → List ℕ → Type 0
Put text out count after = (count ≡ length text) × (after ≡ over text out)

pub put_none : (out : List ℕ) → Put [] out 0 out
put_none out = (refl, over_none out)

-- the same text, said in another way
pub put_as : (out : List ℕ) {s t : List ℕ} {n : ℕ} {after : List ℕ} → s ≡ t → Put t out n after → Put s out n after
put_as out {n} {after} e put = subst (λ (x : List ℕ). Put x out n after) (sym e) put

-- a text that fits is put whole
pub put_whole : (text out : List ℕ) {n : ℕ} {after : List ℕ} → length text ≤ length out → Put (written text (length out)) out n after → Put text out n after
put_whole text out h put = put_as out (sym (written_whole text (length out) h)) put

-- one text after another, put into what is left of the output
module _ (a out : List ℕ) {p : ℕ} {x : List ℕ} (put : Put a out p x) where
  pub put_after : (b : List ℕ) {q : ℕ} {y : List ℕ} → Put b (take (length x - p) (drop p x)) q y
      → Put (a ++ b) out (p + q) (take p x ++ (y ++ drop (length x - p) (drop p x)))
  put_after b {q} {y} (e, f) =
      let all : take (length x - p) (drop p x) ≡ drop p x = part_to_end x p in
      let none : drop (length x - p) (drop p x) ≡ [] = drop_of_length-le (drop p x) {i = length x - p} (omega (arith, length-drop p x)) in (
        omega (arith, put.0, length-append a b),
        ap (λ (l : List ℕ). take p x ++ l) (ap (λ (l : List ℕ). y ++ l) none ∙ append-nil y ∙ f ∙ ap (over b) all) ∙ over_after a b out x p (sym put.0) put.1,
      )

  pub put_size : p ≤ length out → length x ≡ length out
  put_size h = ap length put.1 ∙ over_length a out (omega (arith, put.0))

  pub put_within : p ≤ length out → p ≤ length x
  put_within h = omega (arith, put_size h)

  pub put_room : (k : ℕ) → p + k ≤ length out → k ≤ length (take (length x - p) (drop p x))
  put_room k h = rw (part_to_end x p) (omega (arith, put_size (omega arith), length-drop p x))

  -- a text that is put whole or not at all is put whole where there is room
  pub put_rest : (b : List ℕ) {q : ℕ} {y : List ℕ} → p + length b ≤ length out
      → Put (written b (length (take (length x - p) (drop p x)))) (take (length x - p) (drop p x)) q y
      → Put b (take (length x - p) (drop p x)) q y
  put_rest b h next = put_whole b (take (length x - p) (drop p x)) (put_room (length b) h) next
