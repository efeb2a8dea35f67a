-- A front written over a list: a turn of the loop that writes it, what the list holds, mapped, and one front after another.
use mathlib.Core.Path.{◌≡◌, refl, sym, ◌∙◌, ap}
use mathlib.Core.List.{List, [], ◌∷◌, ◌++◌, map, append_assoc, append-nil, map-append}
use Prim.Native.Nat.{ℕ, zero, suc, ◌+◌, ◌-◌, ◌<◌, ◌≤◌}
use native.Mathlib.Numerals.{add-one}
use native.Mathlib.Omega.{arith}
use lib.ListN.{length, get_or, set, take, drop, length-append, length-drop, length-map, drop_of_length-le, get_or-append}
use lib.Seq.{drop-cons, drop-drop, get_or-drop, get_or-append-add, set_at, take_at, drop_at}
use Rattle.lists.specs.Lists.{tab, over}
use Rattle.lists.proofs.Tables.{tab_length, tab_at}

-- ---- a loop that writes f 0, f 1, .. over d

pub over_start : {A : Type 0} (f : ℕ → A) (d : List A) → d ≡ over (tab f 0) d
unfolding over tab
over_start f d = refl

-- one element more, after a front of n
pub over_one : {A : Type 0} (z : A) (front d : List A) (n : ℕ) (v : A) → length front ≡ n → n < length d → set (over front d) n v ≡ over (front ++ (v ∷ [])) d
unfolding over
over_one z front d n v e h =
    let size : length (front ++ (v ∷ [])) ≡ suc n = omega (arith, length-append front (v ∷ [])) in
    rw (e, size, drop-cons d n z h) (set_at front (get_or d n z) (drop (suc n) d) v n e ∙ sym (append_assoc front (v ∷ []) (drop (suc n) d)))

over_more : {A : Type 0} (z : A) (f : ℕ → A) (n : ℕ) (d : List A) → n < length d → set (over (tab f n) d) n (f n) ≡ over (tab f (n + 1)) d
unfolding tab
over_more z f n d h = rw add-one (over_one z (tab f n) d n (f n) (tab_length f n) h)

-- a loop's turn: what is written is f's element
pub over_set : {A : Type 0} (z : A) (f : ℕ → A) (n : ℕ) (d x : List A) (v : A) → n < length d → x ≡ over (tab f n) d → v ≡ f n → set x n v ≡ over (tab f (n + 1)) d
over_set z f n d x v h p q = rw (p, q) (over_more z f n d h)

-- a place past the front is as it was
pub over_past : {A : Type 0} (f : ℕ → A) (z : A) (n : ℕ) (d : List A) (i : ℕ) → n ≤ i → get_or (over (tab f n) d) i z ≡ get_or d i z
unfolding over
over_past f z n d i h =
    let place : i ≡ length (tab f n) + (i - n) = omega (arith, tab_length f n) in
    let back : length (tab f n) + (i - n) ≡ i = sym place in
    ap (λ (k : ℕ). get_or (tab f n ++ drop (length (tab f n)) d) k z) place
    ∙ get_or-append-add (tab f n) (drop (length (tab f n)) d) (i - n) z
    ∙ get_or-drop (length (tab f n)) d (i - n) z
    ∙ ap (λ (k : ℕ). get_or d k z) back

pub over_tab_at : {A : Type 0} (f : ℕ → A) (z : A) (n : ℕ) (d : List A) (i : ℕ) → i < n → get_or (over (tab f n) d) i z ≡ f i
unfolding over
over_tab_at f z n d i h = get_or-append (tab f n) (drop (length (tab f n)) d) z i (rw tab_length h) ∙ tab_at f z n i h

-- ---- what the list holds

module _ {A : Type 0} (front out : List A) where
  pub over_length : length front ≤ length out → length (over front out) ≡ length out
  unfolding over
  over_length h = omega (arith, length-append front (drop (length front) out), length-drop (length front) out)

  -- a list that took a front has room for it
  pub over_fits : length front ≤ length (over front out)
  unfolding over
  over_fits = omega (arith, length-append front (drop (length front) out))

  pub over_whole : length out ≤ length front → over front out ≡ front
  unfolding over
  over_whole h = ap (λ (t : List A). front ++ t) (drop_of_length-le out h) ∙ append-nil front

  pub take_over : (n : ℕ) → length front ≡ n → take n (over front out) ≡ front
  unfolding over
  take_over n e = take_at front (drop (length front) out) n e

pub over_tab_whole : {A : Type 0} (f : ℕ → A) (n : ℕ) (d : List A) → length d ≤ n → over (tab f n) d ≡ tab f n
over_tab_whole f n d h = over_whole (tab f n) d (rw (tab_length f n) h)

-- the front of a front of n elements
pub over_drop : {A : Type 0} (front out : List A) (n : ℕ) → length front ≡ n → over front out ≡ front ++ drop n out
unfolding over
over_drop front out n e = rw e

pub over_none : {A : Type 0} (out : List A) → out ≡ over [] out
unfolding over
over_none out = refl

-- ---- mapped

map_drop : {A B : Type 0} (g : A → B) (n : ℕ) (l : List A) → map g (drop n l) ≡ drop n (map g l)
map_drop g zero l = refl
map_drop g (suc n) [] = refl
map_drop g (suc n) (x ∷ l) = map_drop g n l

pub over_map : {A B : Type 0} (g : A → B) (front out : List A) → map g (over front out) ≡ over (map g front) (map g out)
unfolding over
over_map g front out =
    rw (length-map front g)
    (map-append g front (drop (length front) out) ∙ ap (λ (x : List _). map g front ++ x) (map_drop g (length front) out))

-- ---- one front after another, written over what is left

-- what stands after x in x's own output, with y over it
pub over_after : {A : Type 0} (x y d out : List A) (n : ℕ) → length x ≡ n → out ≡ over x d → take n out ++ over y (drop n out) ≡ over (x ++ y) d
unfolding over
over_after x y d out n e o =
    let size : length (x ++ y) ≡ n + length y = omega (arith, length-append x y) in
    rw (o, e, take_at x (drop n d) n e, drop_at x (drop n d) n e, drop-drop, size) (sym (append_assoc x y (drop (n + length y) d)))

-- the same where y was written over a part of b elements
pub over_part : {A : Type 0} (x y d out : List A) (n b : ℕ) → length x ≡ n → length y ≡ b → out ≡ over x d
    → take n out ++ (y ++ drop b (drop n out)) ≡ over (x ++ y) d
over_part x y d out n b e f o = ap (λ (z : List _). take n out ++ z) (sym (over_drop y (drop n out) b f)) ∙ over_after x y d out n e o
