-- The oldest block of a depot, its place, and the state without it.
use mathlib.Core.Path.{◌≡◌, sym, ◌∙◌, ap}
use mathlib.Core.List.{List, ◌∷◌, ◌++◌}
use Prim.Native.Nat.{ℕ, ◌+◌, ◌-◌, ◌*◌, ◌<◌, ◌≤◌, ◌%◌}
use native.Mathlib.Decide.{ℕ_discrete}
use native.Mathlib.Omega.{arith}
use lib.ListN.{length, set, length-set}
use lib.Seq.{get_or-set_same, get_or-set_other}
use Rattle.lists.specs.Lists.{tab, num}
use Rattle.lists.specs.Sums.{total}
use Rattle.lists.proofs.Tables.{tab_add, tab_ext}
use Rattle.sender.specs.Queues.{Block, Queues, waiting, oldest, served}
use Rattle.sender.specs.State.{Place, place_in, blocks_of, counts_in, filled, Holds}
use Rattle.sender.specs.Internal.{place_with, Removed}
use Rattle.sender.proofs.Steps.{served_here, served_other, served_count, served_total}
use Rattle.sender.proofs.Filled.{no_place, place_same, blocks_append, blocks_own, blocks_other, place_found, its_depot, none_before, places_parted}

module _ (q : Queues) (bytes : List ℕ) (depot : ℕ) (h : Holds q bytes) (l : depot < 30) (some : 0 < waiting q depot) (few : total 30 (waiting q) ≤ 150) where
  pub places_fit : filled bytes ≤ 150
  places_fit = omega (arith, h.places)

  pub place_there : place_with depot bytes (filled bytes) < filled bytes
  place_there = place_found depot bytes (filled bytes) (rw (h.queues depot) some)

  module _ (at : ℕ) (e : at ≡ place_with depot bytes (filled bytes)) where
    there : at < filled bytes
    there = omega (arith, place_there)

    abbrev first : Place
    first = place_in bytes (at + 0)

    abbrev before : List Place
    before = tab (place_in bytes) at

    -- how many places come after it
    abbrev rest : ℕ
    rest = filled bytes - (at + 1)

    abbrev behind : List Place
    behind = tab (λ k. place_in bytes (at + (1 + k))) rest

    parted : tab (place_in bytes) (filled bytes) ≡ before ++ (first ∷ behind)
    parted =
        let all : filled bytes ≡ at + (1 + rest) = omega (arith, there) in
        ap (tab (place_in bytes)) all ∙ places_parted (place_in bytes) at rest

    first_depot : first.depot ≡ depot
    first_depot = ap (λ (i : ℕ). (place_in bytes i).depot) (omega arith) ∙ its_depot depot bytes (filled bytes) at e there

    queue : q.at depot ≡ first.block ∷ blocks_of depot behind
    queue =
        sym (h.queues depot)
        ∙ ap (blocks_of depot) parted
        ∙ blocks_append depot before (first ∷ behind)
        ∙ rw (none_before depot bytes (filled bytes) at e there, blocks_own depot first behind first_depot)

    pub oldest_there : oldest q depot ≡ (place_in bytes at).block
    unfolding oldest
    oldest_there = rw queue (ap (λ (i : ℕ). (place_in bytes i).block) (omega arith))

    queues_served : (d : ℕ) → Dec (d ≡ depot) → blocks_of d (before ++ behind) ≡ (served q depot).at d
    queues_served d (yes p) =
        rw (p, served_here q depot, queue) (blocks_append depot before behind ∙ rw (none_before depot bytes (filled bytes) at e there))
    queues_served d (no ne) =
        blocks_append d before behind
        ∙ ap (λ (x : List Block). blocks_of d before ++ x) (sym (blocks_other d first behind (λ p. ne (sym p ∙ first_depot))))
        ∙ sym (blocks_append d before (first ∷ behind))
        ∙ ap (blocks_of d) (sym parted)
        ∙ h.queues d
        ∙ sym (served_other q depot d ne)

    module _ (next : List ℕ) (r : Removed at (filled bytes) bytes next) where
      abbrev counted : List ℕ
      counted = set next (1500 + depot) (num next (1500 + depot) - 1)

      abbrev shorter : List ℕ
      shorter = set counted 1530 (filled bytes - 1)

      abbrev left : List ℕ
      left = set shorter 1531 ((depot + 1) % 30)

      counted_size : length counted ≡ 1532
      counted_size = length-set next (1500 + depot) (num next (1500 + depot) - 1) ∙ r.size

      shorter_size : length shorter ≡ 1532
      shorter_size = length-set counted 1530 (filled bytes - 1) ∙ counted_size

      kept : (j : ℕ) → j < 1530 → (j ≡ 1500 + depot → ⊥) → num left j ≡ num next j
      kept j k m =
          get_or-set_other shorter 1531 j ((depot + 1) % 30) 0 (λ n. omega arith)
          ∙ get_or-set_other counted 1530 j (filled bytes - 1) 0 (λ n. omega arith)
          ∙ get_or-set_other next (1500 + depot) j (num next (1500 + depot) - 1) 0 m

      now_filled : filled left ≡ filled bytes - 1
      now_filled =
          get_or-set_other shorter 1531 1530 ((depot + 1) % 30) 0 (λ n. omega arith)
          ∙ get_or-set_same counted 1530 (filled bytes - 1) 0 (omega (arith, counted_size))

      counts_served : (d : ℕ) → d < 30 → Dec (d ≡ depot) → counts_in left d ≡ waiting (served q depot) d
      counts_served d k (yes p) =
          rw p
          (get_or-set_other shorter 1531 (1500 + depot) ((depot + 1) % 30) 0 (λ n. omega arith)
          ∙ get_or-set_other counted 1530 (1500 + depot) (filled bytes - 1) 0 (λ n. omega arith)
          ∙ get_or-set_same next (1500 + depot) (num next (1500 + depot) - 1) 0 (omega (arith, r.size))
          ∙ ap (λ (n : ℕ). n - 1) (r.beyond (1500 + depot) (omega arith) ∙ h.counts depot l)
          ∙ sym (served_count q depot))
      counts_served d k (no ne) =
          kept (1500 + d) (omega arith) (λ n. ne (omega arith))
          ∙ r.beyond (1500 + d) (omega arith)
          ∙ h.counts d k
          ∙ ap (λ (x : List Block). length x) (sym (served_other q depot d ne))

      before_kept : (i : ℕ) → i < at → place_in left i ≡ place_in bytes i
      before_kept i k =
          place_same left bytes i i
          (λ j m. kept (10 * i + j) (omega (arith, there, places_fit)) (λ n. omega (arith, there, places_fit)) ∙ r.before (10 * i + j) (omega arith))

      behind_moved : (k : ℕ) → k < rest → place_in left (at + k) ≡ place_in bytes (at + (1 + k))
      behind_moved k m =
          place_same left bytes (at + k) (at + (1 + k))
          (λ j n.
          kept (10 * (at + k) + j) (omega (arith, places_fit)) (λ p. omega (arith, places_fit))
          ∙ r.moved (10 * (at + k) + j) (omega arith) (omega arith)
          ∙ ap (num bytes) (omega arith))

      now_places : tab (place_in left) (filled left) ≡ before ++ behind
      now_places =
          let all : filled left ≡ at + rest = omega (arith, now_filled, there) in
          ap (tab (place_in left)) all
          ∙ tab_add (place_in left) at rest
          ∙ rw (tab_ext no_place (place_in left) (place_in bytes) at before_kept)
          (ap (λ (x : List Place). before ++ x) (tab_ext no_place (λ k. place_in left (at + k)) (λ k. place_in bytes (at + (1 + k))) rest behind_moved))

      pub served_holds : Holds (served q depot) left
      served_holds = record {
        size = length-set shorter 1531 ((depot + 1) % 30) ∙ shorter_size;
        queues = λ d. ap (blocks_of d) now_places ∙ queues_served d (ℕ_discrete d depot);
        counts = λ d k. counts_served d k (ℕ_discrete d depot);
        places = omega (arith, now_filled, h.places, served_total q depot l some);
        turn = unfold served in get_or-set_same shorter 1531 ((depot + 1) % 30) 0 (omega (arith, shorter_size));
      }
