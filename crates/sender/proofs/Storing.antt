-- A block put into the next place joins its depot's queue.
use mathlib.Core.Path.{◌≡◌, refl, sym, ◌∙◌, ap}
use mathlib.Core.List.{List, [], ◌∷◌, ◌++◌, append-nil}
use Prim.Native.Nat.{ℕ, ◌+◌, ◌*◌, ◌<◌, ◌≤◌, min}
use native.Mathlib.Decide.{ℕ_discrete}
use native.Mathlib.Numerals.{add-one}
use native.Mathlib.Omega.{arith}
use lib.ListN.{length, set, length-set}
use lib.Seq.{get_or-set_same, get_or-set_other}
use Rattle.lists.specs.Lists.{tab, num}
use Rattle.lists.proofs.Tables.{is_tab, tab_ext}
use Rattle.sender.specs.Queues.{Block, Queues, waiting, joined}
use Rattle.sender.specs.State.{Place, place_in, blocks_of, counts_in, filled, Holds}
use Rattle.sender.specs.Internal.{Put}
use Rattle.sender.proofs.Steps.{joined_here, joined_other, joined_count, joined_total}
use Rattle.sender.proofs.Filled.{no_place, place_same, blocks_append, blocks_own, blocks_other}

module _ (q : Queues) (bytes : List ℕ) (depot : ℕ) (b : Block) (next : List ℕ)
    (h : Holds q bytes) (p : Put bytes (filled bytes) depot b next)
    (l : depot < 30) (free : filled bytes < 150) (fits : length b.codes ≡ b.mode) (few : length b.codes ≤ 8) where
  -- with the counts
  abbrev counted : List ℕ
  counted = set next (1500 + depot) (num next (1500 + depot) + 1)

  abbrev stored : List ℕ
  stored = set counted 1530 (filled bytes + 1)

  counted_size : length counted ≡ 1532
  counted_size = length-set next (1500 + depot) (num next (1500 + depot) + 1) ∙ p.size

  kept : (j : ℕ) → (j ≡ 1530 → ⊥) → (j ≡ 1500 + depot → ⊥) → num stored j ≡ num next j
  kept j n m = get_or-set_other counted 1530 j (filled bytes + 1) 0 n ∙ get_or-set_other next (1500 + depot) j (num next (1500 + depot) + 1) 0 m

  now_filled : filled stored ≡ filled bytes + 1
  now_filled = get_or-set_same counted 1530 (filled bytes + 1) 0 (omega (arith, counted_size))

  counts_joined : (d : ℕ) → d < 30 → Dec (d ≡ depot) → counts_in stored d ≡ waiting (joined q depot b) d
  counts_joined d k (yes e) =
      rw e
      (get_or-set_other counted 1530 (1500 + depot) (filled bytes + 1) 0 (λ n. omega arith)
      ∙ get_or-set_same next (1500 + depot) (num next (1500 + depot) + 1) 0 (omega (arith, p.size))
      ∙ ap (λ (n : ℕ). n + 1) (p.beyond (1500 + depot) (omega arith) ∙ h.counts depot l)
      ∙ sym (joined_count q depot b))
  counts_joined d k (no ne) =
      kept (1500 + d) (λ n. omega arith) (λ n. ne (omega arith))
      ∙ p.beyond (1500 + d) (omega arith)
      ∙ h.counts d k
      ∙ ap (λ (x : List Block). length x) (sym (joined_other q depot b d ne))

  places_kept : (i : ℕ) → i < filled bytes → place_in stored i ≡ place_in bytes i
  places_kept i k =
      place_same stored bytes i i (λ j m. kept (10 * i + j) (λ n. omega arith) (λ n. omega arith) ∙ p.before (10 * i + j) (omega arith))

  place_new : place_in stored (filled bytes) ≡ record { depot = depot; block = b }
  unfolding place_in
  place_new = λ t. record { depot = its_depot t; block = record { mode = its_mode t; codes = its_codes t } }
    where
      its_depot : num stored (10 * filled bytes) ≡ depot
      its_depot = kept (10 * filled bytes) (λ n. omega arith) (λ n. omega arith) ∙ p.its_depot

      its_mode : num stored (10 * filled bytes + 1) ≡ b.mode
      its_mode = kept (10 * filled bytes + 1) (λ n. omega arith) (λ n. omega arith) ∙ p.its_mode

      its_codes : tab (λ k. num stored (10 * filled bytes + 2 + k)) (min (num stored (10 * filled bytes + 1)) 8) ≡ b.codes
      its_codes =
          let size : min (num stored (10 * filled bytes + 1)) 8 ≡ length b.codes = omega (arith, its_mode) in
          rw size
          (sym (is_tab (λ k. num stored (10 * filled bytes + 2 + k)) 0 (length b.codes) b.codes refl
          (λ k m. sym (kept (10 * filled bytes + 2 + k) (λ n. omega arith) (λ n. omega arith) ∙ p.its_codes k m))))

  joins : (d : ℕ) → Dec (d ≡ depot) → q.at d ++ blocks_of d (record { depot = depot; block = b } ∷ []) ≡ (joined q depot b).at d
  unfolding blocks_of
  joins d (yes e) = rw (e, joined_here q depot b, blocks_own depot (record { depot = depot; block = b }) [] refl)
  joins d (no ne) = rw (blocks_other d (record { depot = depot; block = b }) [] (λ e. ne (sym e)), joined_other q depot b d ne) (append-nil (q.at d))

  pub stored_holds : Holds (joined q depot b) stored
  stored_holds = record {
    size = length-set counted 1530 (filled bytes + 1) ∙ counted_size;
    queues = λ d.
        ap (λ (n : ℕ). blocks_of d (tab (place_in stored) n)) (now_filled ∙ add-one (filled bytes))
        ∙ unfold tab in blocks_append d (tab (place_in stored) (filled bytes)) (place_in stored (filled bytes) ∷ [])
        ∙ ap (λ (x : List Place). blocks_of d x ++ blocks_of d (place_in stored (filled bytes) ∷ []))
        (tab_ext no_place (place_in stored) (place_in bytes) (filled bytes) places_kept)
        ∙ ap (λ (x : List Block). x ++ blocks_of d (place_in stored (filled bytes) ∷ [])) (h.queues d)
        ∙ ap (λ (x : Place). q.at d ++ blocks_of d (x ∷ [])) place_new
        ∙ joins d (ℕ_discrete d depot);
    counts = λ d k. counts_joined d k (ℕ_discrete d depot);
    places = omega (arith, now_filled, h.places, joined_total q depot b l);
    turn = unfold joined in (kept 1531 (λ n. omega arith) (λ n. omega arith) ∙ p.beyond 1531 (omega arith) ∙ h.turn);
  }
