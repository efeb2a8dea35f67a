-- The largest key is that of the foremost word, so that the passes over the keys find the decision.
use mathlib.Core.Path.{◌≡◌, refl, sym, ◌∙◌, ap, ap₂}
use mathlib.Core.List.{List, [], ◌∷◌}
use mathlib.Core.Logic.{◌≢◌}
use Prim.Native.Nat.{ℕ, zero, suc, ◌+◌, ◌-◌, ◌*◌, ◌/◌, ◌%◌, ◌<◌, ◌≤◌, max}
use Rattle.std.specs.List.{fold}
use native.Mathlib.Decide.{ℕ_discrete, dec_lt}
use native.Mathlib.Omega.{arith}
use lib.IntN.{ℤ, nat_abs}
use lib.ListN.{length, set, take, length-set, get_or-eq_default}
use lib.Seq.{get_or-set_same, get_or-set_other, take-length}
use Rattle.lists.specs.Lists.{tab, num}
use Rattle.lists.proofs.Tables.{tab_length, tab_at, tab_ext}
use Rattle.decision.specs.Decision.{best, runner_up, negative, code_of, decision_for, decision}
use Rattle.decision.specs.Laws.{Foremost}
use Rattle.lead_finder.specs.Internal.{key_of, largest}
use Rattle.decision.specs.declared.Character.{Character}
use Rattle.decision.proofs.Choice.{same_character, Best, Next, best_is, runner_up_is, decided}

-- ---- the largest number

from_above : (a : ℕ) (x : List ℕ) → a ≤ fold max a x
from_above a [] = omega arith
from_above a (y ∷ x) = omega (arith, from_above (max a y) x)

each_above : (a : ℕ) (x : List ℕ) (k : ℕ) → num x k ≤ fold max a x
each_above a [] k = omega arith
each_above a (y ∷ x) zero = omega (arith, from_above (max a y) x)
each_above a (y ∷ x) (suc k) = each_above (max a y) x k

all_below : (a B : ℕ) (x : List ℕ) → a ≤ B → ((k : ℕ) → k < length x → num x k ≤ B) → fold max a x ≤ B
all_below a B [] h g = h
all_below a B (y ∷ x) h g = all_below (max a y) B x (omega (arith, g 0 (omega arith))) (λ k l. g (suc k) (omega arith))

largest_fold : (x : List ℕ) → largest x ≡ fold max 0 x
largest_fold [] = refl
largest_fold (y ∷ x) = ap (λ (a : ℕ). fold max a x) (omega arith)

-- so far and with one number more, and of all
pub largest_more : (a : ℕ) (x : List ℕ) (i : ℕ) → i < length x → fold max a (take (suc i) x) ≡ max (fold max a (take i x)) (num x i)
largest_more a [] i l = absurd (omega arith)
largest_more a (y ∷ x) zero l = refl
largest_more a (y ∷ x) (suc i) l = largest_more (max a y) x i (omega arith)

pub largest_all : (x : List ℕ) (n : ℕ) → n ≡ length x → fold max 0 (take n x) ≡ largest x
largest_all x n e = rw e (ap (fold max 0) (take-length x)) ∙ sym (largest_fold x)

-- it is at w, if none is larger
largest_at : (x : List ℕ) (w : ℕ) → w < length x → ((k : ℕ) → k < length x → num x k ≤ num x w) → largest x ≡ num x w
largest_at x w l h = omega (arith, largest_fold x, each_above 0 x w, all_below 0 (num x w) x (omega arith) h)

module _ (r : ℕ → ℤ) where
  -- ---- a key, by its word and its magnitude

  key_word : (k : ℕ) → k < 64 → 63 - key_of r k % 64 ≡ k
  unfolding key_of
  key_word k l = omega arith

  key_magnitude : (k : ℕ) → key_of r k / 64 ≡ nat_abs (r k)
  unfolding key_of
  key_magnitude k = omega arith

  key_foremost : (Among : ℕ → Type 0) (w : ℕ) → w < 64 → Foremost r Among w → (k : ℕ) → Among k → key_of r k ≤ key_of r w
  unfolding key_of
  key_foremost Among w i h k p = by (dec_lt k w)
    where
      by : Dec (k < w) → nat_abs (r k) * 64 + (63 - k) ≤ nat_abs (r w) * 64 + (63 - w)
      by (yes l) = omega (arith, h.lowest k p l)
      by (no n) = omega (arith, h.greatest k p)

  -- ---- the keys from the magnitudes x

  module _ (x : List ℕ) (e : x ≡ tab (λ i. nat_abs (r i)) 64) where
    magnitude_at : (k : ℕ) → k < 64 → num x k ≡ nat_abs (r k)
    magnitude_at k l = rw e (tab_at (λ i. nat_abs (r i)) 0 64 k l)

    pub magnitudes_small : (b : ℕ) → ((i : ℕ) → nat_abs (r i) ≤ b) → (i : ℕ) → num x i ≤ b
    magnitudes_small b h i = by (dec_lt i 64)
      where
        by : Dec (i < 64) → num x i ≤ b
        by (yes l) = omega (arith, magnitude_at i l, h i)
        by (no n) =
            let past : length x ≤ i = rw (e, tab_length) (omega arith) in
            omega (arith, get_or-eq_default x 0 {n = i} past)

    pub keys_from : tab (λ k. num x k * 64 + (63 - k)) 64 ≡ tab (key_of r) 64
    unfolding key_of
    keys_from = tab_ext 0 _ _ 64 (λ k l. ap (λ (n : ℕ). n * 64 + (63 - k)) (magnitude_at k l))

  -- ---- what the passes over the keys x find

  module _ (x : List ℕ) (e : x ≡ tab (key_of r) 64) where
    key_at : (k : ℕ) → k < 64 → num x k ≡ key_of r k
    key_at k l = rw e (tab_at (key_of r) 0 64 k l)

    long : (w : ℕ) → w < 64 → w < length x
    long w l = rw (e, tab_length) l

    below : (k : ℕ) → k < length x → k < 64
    below k g = omega (arith, (rw (e, tab_length) at g))

    largest_best : (w : ℕ) → Best r w → largest x ≡ key_of r w
    largest_best w b =
        largest_at x w (long w b.among)
        (λ k g. let l : k < 64 = below k g in omega (arith, key_at k l, key_at w b.among, key_foremost (λ j. j < 64) w b.among b k l))
        ∙ key_at w b.among

    cleared_own : (w : ℕ) → w < 64 → num (set x w 0) w ≡ 0
    cleared_own w l = get_or-set_same x w 0 0 (rw (e, tab_length) l)

    cleared_other : (w k : ℕ) → k < 64 → k ≢ w → num (set x w 0) k ≡ key_of r k
    cleared_other w k l ne = get_or-set_other x w k 0 0 ne ∙ key_at k l

    -- with 0 at w, the largest key is that of w's runner-up
    largest_next : (w v : ℕ) → w < 64 → Next r w v → largest (set x w 0) ≡ key_of r v
    largest_next w v i n =
        let own : num (set x w 0) v ≡ key_of r v = cleared_other w v n.among.0 n.among.1 in
        largest_at (set x w 0) v (rw length-set (long v n.among.0)) (λ k g. by own k (below k (rw length-set at g)) (ℕ_discrete k w)) ∙ own
      where
        by : num (set x w 0) v ≡ key_of r v → (k : ℕ) → k < 64 → Dec (k ≡ w) → num (set x w 0) k ≤ num (set x w 0) v
        by own k l (yes p) = omega (arith, ap (num (set x w 0)) p, cleared_own w i)
        by own k l (no ne) = omega (arith, cleared_other w k l ne, key_foremost (λ j. (j < 64) × (j ≢ w)) v n.among.0 n k (l, ne))

    module _ (first word : ℕ) (g : first ≡ largest x) (p : word ≡ 63 - first % 64) where
      first_key : first ≡ key_of r (best r 64)
      first_key = g ∙ largest_best (best r 64) (best_is r)

      word_is : word ≡ best r 64
      word_is = p ∙ ap (λ (k : ℕ). 63 - k % 64) first_key ∙ key_word (best r 64) (best_is r).among

      pub word_best : Best r word
      word_best = rw word_is (best_is r)

      first_magnitude : first / 64 ≡ nat_abs (r word)
      first_magnitude = rw word_is (ap (λ (k : ℕ). k / 64) first_key ∙ key_magnitude (best r 64))

      module _ (second next : ℕ) (s : second ≡ largest (set x word 0)) (q : next ≡ 63 - second % 64) where
        second_key : second ≡ key_of r (runner_up r word)
        second_key = s ∙ largest_next word (runner_up r word) word_best.among (runner_up_is r word word_best.among)

        next_is : next ≡ runner_up r word
        next_is = q ∙ ap (λ (k : ℕ). 63 - k % 64) second_key ∙ key_word (runner_up r word) (runner_up_is r word word_best.among).among.0

        pub next_best : Next r word next
        next_best = rw next_is (runner_up_is r word word_best.among)

        second_magnitude : second / 64 ≡ nat_abs (r next)
        second_magnitude = rw next_is (ap (λ (k : ℕ). k / 64) second_key ∙ key_magnitude (runner_up r word))

        pub second_below : second / 64 ≤ first / 64
        second_below = omega (arith, first_magnitude, second_magnitude, word_best.greatest next next_best.among.0)

        pub keys_decide : (c : ℕ) (y z : ℤ) → c ≡ code_of word (negative y) → y ≡ r word → z ≡ r next
            → ◌≡◌ {A = Character}
            (record { code = c; lead = first / 64 - second / 64; word = word; correlation = y; next = next; next_correlation = z })
            (decision r)
        unfolding decision_for
        keys_decide c y z ec ey ez =
            same_character
            (ec ∙ ap (λ (v : ℤ). code_of word (negative v)) ey) (ap₂ (λ (a b : ℕ). a - b) first_magnitude second_magnitude)
            refl ey refl ez
            ∙ decided r word next word_best next_best
