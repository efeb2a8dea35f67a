-- The places as the bytes hold them, and the blocks of a depot in them.
use mathlib.Core.Path.{◌≡◌, refl, sym, ◌∙◌, ap}
use mathlib.Core.Bool.{Bool, true, false, cond}
use mathlib.Core.List.{List, [], ◌∷◌, ◌++◌}
use Prim.Native.Nat.{ℕ, zero, suc, ◌+◌, ◌-◌, ◌*◌, ◌<◌, ◌≤◌, min}
use native.Mathlib.Decide.{dec_lt}
use native.Mathlib.Omega.{arith}
use borrow.Author.Tests.{eq-eqb, ne_eqb, eqb-true}
use lib.Dec.{eqb}
use lib.ListN.{length, take, drop, length-drop}
use lib.Seq.{get_or-drop}
use Rattle.lists.specs.Lists.{tab, num}
use Rattle.lists.proofs.Places.{first_is}
use Rattle.lists.specs.Laws.{IsFirst}
use Rattle.lists.proofs.Tables.{tab_ext, tab_add, tab_take}
use Rattle.sender.specs.Queues.{Block}
use Rattle.sender.specs.State.{Place, place_in, blocks_of}
use Rattle.sender.specs.Internal.{is_of, place_with}

-- what a read past the end gives
abbrev pub no_place : Place
no_place = record { depot = 0; block = record { mode = 0; codes = [] } }

-- a place is told by its ten bytes
pub place_same : (x y : List ℕ) (i k : ℕ) → ((j : ℕ) → j < 10 → num x (10 * i + j) ≡ num y (10 * k + j)) → place_in x i ≡ place_in y k
unfolding place_in
place_same x y i k same =
    λ t. record {
      depot = its_depot t;
      block = record { mode = its_mode t; codes = its_codes t };
    }
  where
    its_depot : num x (10 * i) ≡ num y (10 * k)
    its_depot = ap (num x) (omega arith) ∙ same 0 (omega arith) ∙ ap (num y) (omega arith)

    its_mode : num x (10 * i + 1) ≡ num y (10 * k + 1)
    its_mode = same 1 (omega arith)

    its_codes : tab (λ j. num x (10 * i + 2 + j)) (min (num x (10 * i + 1)) 8) ≡ tab (λ j. num y (10 * k + 2 + j)) (min (num y (10 * k + 1)) 8)
    its_codes =
        rw its_mode
        (tab_ext 0 (λ j. num x (10 * i + 2 + j)) (λ j. num y (10 * k + 2 + j)) (min (num y (10 * k + 1)) 8) (λ j h. code j (omega arith)))
      where
        code : (j : ℕ) → j < 8 → num x (10 * i + 2 + j) ≡ num y (10 * k + 2 + j)
        code j h =
            ap (num x) (omega arith)
            ∙ same (2 + j) (omega arith)
            ∙ ap (num y) (omega arith)

-- the codes of a place as a part of the bytes
pub part_codes : (bytes : List ℕ) (i n : ℕ) → 10 * i + 10 ≤ length bytes → n ≡ min (num bytes (10 * i + 1)) 8
    → take (10 * i + 2 + n - (10 * i + 2)) (drop (10 * i + 2) bytes) ≡ (place_in bytes i).block.codes
unfolding place_in
part_codes bytes i n h e =
    let size : 10 * i + 2 + n - (10 * i + 2) ≡ n = omega arith in
    rw (size, ← e)
    (sym (tab_take 0 (drop (10 * i + 2) bytes) n (omega (arith, length-drop (10 * i + 2) bytes)))
    ∙ tab_ext 0 (λ k. num (drop (10 * i + 2) bytes) k) (λ k. num bytes (10 * i + 2 + k)) n (λ k l. get_or-drop (10 * i + 2) bytes k 0))

-- ---- the blocks of a depot

pub blocks_append : (d : ℕ) (l m : List Place) → blocks_of d (l ++ m) ≡ blocks_of d l ++ blocks_of d m
unfolding blocks_of
blocks_append d [] m = refl
blocks_append d (p ∷ l) m = by (eqb p.depot d) (blocks_append d l m)
  where
    by : (t : Bool) → blocks_of d (l ++ m) ≡ blocks_of d l ++ blocks_of d m
        → cond t (p.block ∷ blocks_of d (l ++ m)) (blocks_of d (l ++ m)) ≡ cond t (p.block ∷ blocks_of d l) (blocks_of d l) ++ blocks_of d m
    by true e = rw e
    by false e = e

module _ (d : ℕ) (p : Place) (l : List Place) where
  pub blocks_own : p.depot ≡ d → blocks_of d (p ∷ l) ≡ p.block ∷ blocks_of d l
  unfolding blocks_of
  blocks_own e = rw (eq-eqb p.depot d e)

  pub blocks_other : (p.depot ≡ d → ⊥) → blocks_of d (p ∷ l) ≡ blocks_of d l
  unfolding blocks_of
  blocks_other ne = rw (ne_eqb p.depot d ne)

-- places of which none is the depot's
blocks_none : (d n : ℕ) (f : ℕ → Place) → ((i : ℕ) → i < n → eqb (f i).depot d ≡ false) → blocks_of d (tab f n) ≡ []
unfolding tab blocks_of
blocks_none d zero f none = refl
blocks_none d (suc n) f none =
    blocks_append d (tab f n) (f n ∷ [])
    ∙ rw (blocks_none d n f (λ i h. none i (omega arith)), none n (omega arith))

-- ---- the first place with a block of a depot

module _ (depot : ℕ) (bytes : List ℕ) (count : ℕ) where
  at_first : IsFirst (is_of depot bytes) count (place_with depot bytes count)
  unfolding place_with
  at_first = first_is (is_of depot bytes) count

  -- a depot with a block has a place
  pub place_found : 0 < length (blocks_of depot (tab (place_in bytes) count)) → place_with depot bytes count < count
  unfolding place_in
  place_found h = by (dec_lt (place_with depot bytes count) count)
    where
      by : Dec (place_with depot bytes count < count) → place_with depot bytes count < count
      by (yes k) = k
      by (no k) =
          let e : blocks_of depot (tab (place_in bytes) count) ≡ [] = blocks_none depot count (place_in bytes) (λ i m. at_first.lowest i (omega arith)) in
          absurd (omega (arith, ap (λ (x : List Block). length x) e))

  module _ (at : ℕ) (e : at ≡ place_with depot bytes count) (l : at < count) where
    pub its_depot : (place_in bytes at).depot ≡ depot
    unfolding place_in
    its_depot = eqb-true (num bytes (10 * at)) depot (rw e (at_first.holds (omega arith)))

    pub none_before : blocks_of depot (tab (place_in bytes) at) ≡ []
    unfolding place_in
    none_before = blocks_none depot at (place_in bytes) (λ i h. at_first.lowest i (omega arith))

-- the places before one, that one, and those after it
pub places_parted : (f : ℕ → Place) (at rest : ℕ) → tab f (at + (1 + rest)) ≡ tab f at ++ (f (at + 0) ∷ tab (λ k. f (at + (1 + k))) rest)
unfolding tab
places_parted f at rest = tab_add f at (1 + rest) ∙ ap (λ (l : List Place). tab f at ++ l) (tab_add (λ k. f (at + k)) 1 rest)
