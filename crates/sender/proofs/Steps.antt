-- What a block that joins and a depot that is served change: one depot's blocks, their count, and the sums over all depots.
use mathlib.Core.Path.{◌≡◌, refl, ap}
use mathlib.Core.Bool.{Bool, true, false, cond}
use mathlib.Core.List.{List, [], ◌∷◌, ◌++◌}
use Prim.Native.Nat.{ℕ, ◌+◌, ◌-◌, ◌<◌, ◌≤◌, ◌%◌, max}
use native.Mathlib.Decide.{ℕ_discrete}
use native.Mathlib.Omega.{arith}
use borrow.Author.Tests.{ltb-false, eq-eqb, ne_eqb}
use lib.Dec.{ltb, leb}
use lib.ListN.{length, drop, length-append, length-drop}
use Rattle.lists.specs.Sums.{total}
use Rattle.lists.proofs.Sums.{total_ext}
use Rattle.lists.proofs.Places.{first_ext}
use Rattle.refusal.specs.Refused.{refused_at}
use Rattle.block_encoder.specs.Checking.{check_codes}
use Rattle.sender.specs.Queues.{Block, Queues, waiting, reserved, one_more, place_answer, after_check, hand_answer, joined, ahead, served}
use Rattle.sender.proofs.Totals.{total_one}
use Rattle.sender.proofs.Rounds.{round_small}
use Rattle.std.proofs.Common.{Ok, Err}
use Rattle.refusal.specs.declared.Reason.{Reason}

-- ---- one more of a depot

module _ (counts : ℕ → ℕ) (depot : ℕ) where
  one_more_here : one_more counts depot depot ≡ counts depot + 1
  unfolding one_more
  one_more_here = rw (eq-eqb depot depot refl)

  one_more_other : (d : ℕ) → (d ≡ depot → ⊥) → one_more counts depot d ≡ counts d
  unfolding one_more
  one_more_other d ne = rw (ne_eqb d depot ne)

  pub one_more_reserved : depot < 30 → reserved (one_more counts depot) + max 4 (counts depot) ≡ reserved counts + max 4 (counts depot + 1)
  unfolding reserved
  one_more_reserved l =
      rw (← one_more_here)
      (total_one 30 depot (λ d. max 4 (one_more counts depot d)) (λ d. max 4 (counts d)) l (λ d ne. ap (max 4) (one_more_other d ne)))

-- ---- the answers depend on the counts of the thirty depots alone

module _ (counts counts' : ℕ → ℕ) (same : (d : ℕ) → d < 30 → counts d ≡ counts' d) where
  pub reserved_ext : reserved counts ≡ reserved counts'
  unfolding reserved
  reserved_ext = total_ext 30 (λ d. max 4 (counts d)) (λ d. max 4 (counts' d)) (λ d l. ap (max 4) (same d l))

  pub ahead_ext : (turn : ℕ) → ahead turn counts ≡ ahead turn counts'
  unfolding ahead
  ahead_ext turn =
      first_ext (λ k. ltb 0 (counts ((turn + k) % 30))) (λ k. ltb 0 (counts' ((turn + k) % 30))) 30
      (λ k l. ap (ltb 0) (same ((turn + k) % 30) (round_small (turn + k))))

module _ (counts counts' : ℕ → ℕ) (same : (d : ℕ) → d < 30 → counts d ≡ counts' d) (depot : ℕ) where
  one_more_ext : (d : ℕ) → d < 30 → one_more counts depot d ≡ one_more counts' depot d
  unfolding one_more
  one_more_ext d l = rw (same d l)

  place_ext : place_answer counts depot ≡ place_answer counts' depot
  unfolding place_answer
  place_ext = by (ltb 29 depot) refl
    where
      by : (t : Bool) → ltb 29 depot ≡ t
          → cond t (Err (refused_at Reason.Depot 0))
          (cond (leb 8 (counts depot)) (Err (refused_at Reason.DepotFull depot))
          (cond (ltb 150 (reserved (one_more counts depot))) (Err (refused_at Reason.AllFull depot)) (Ok (tt {0}))))
          ≡ cond t (Err (refused_at Reason.Depot 0))
          (cond (leb 8 (counts' depot)) (Err (refused_at Reason.DepotFull depot))
          (cond (ltb 150 (reserved (one_more counts' depot))) (Err (refused_at Reason.AllFull depot)) (Ok (tt {0}))))
      by true e = refl
      by false e = rw (same depot (omega (arith, ltb-false 29 depot e)), reserved_ext (one_more counts depot) (one_more counts' depot) one_more_ext)

  pub answer_ext : (b : Block) → hand_answer counts depot b ≡ hand_answer counts' depot b
  unfolding hand_answer
  answer_ext b = ap (after_check (check_codes b.mode b.codes)) place_ext

-- ---- a block joins

module _ (q : Queues) (depot : ℕ) (b : Block) where
  pub joined_here : (joined q depot b).at depot ≡ q.at depot ++ (b ∷ [])
  unfolding joined
  joined_here = rw (eq-eqb depot depot refl)

  pub joined_other : (d : ℕ) → (d ≡ depot → ⊥) → (joined q depot b).at d ≡ q.at d
  unfolding joined
  joined_other d ne = rw (ne_eqb d depot ne)

  pub joined_count : waiting (joined q depot b) depot ≡ waiting q depot + 1
  joined_count = rw (joined_here, length-append)

  pub joined_total : depot < 30 → total 30 (waiting (joined q depot b)) ≡ total 30 (waiting q) + 1
  joined_total l =
      omega (
        arith,
        joined_count,
        total_one 30 depot (waiting (joined q depot b)) (waiting q) l (λ d ne. ap (λ (x : List Block). length x) (joined_other d ne)),
      )

  joined_counts : (d : ℕ) → waiting (joined q depot b) d ≡ one_more (waiting q) depot d
  joined_counts d = by (ℕ_discrete d depot)
    where
      by : Dec (d ≡ depot) → waiting (joined q depot b) d ≡ one_more (waiting q) depot d
      by (yes e) = rw (e, one_more_here (waiting q) depot) joined_count
      by (no ne) = rw (one_more_other (waiting q) depot d ne, joined_other d ne)

  -- the sum that check 19 looks at
  pub joined_reserved : reserved (waiting (joined q depot b)) ≡ reserved (one_more (waiting q) depot)
  joined_reserved = reserved_ext (waiting (joined q depot b)) (one_more (waiting q) depot) (λ d l. joined_counts d)

-- ---- a depot is served

module _ (q : Queues) (depot : ℕ) where
  pub served_here : (served q depot).at depot ≡ drop 1 (q.at depot)
  unfolding served
  served_here = rw (eq-eqb depot depot refl)

  pub served_other : (d : ℕ) → (d ≡ depot → ⊥) → (served q depot).at d ≡ q.at d
  unfolding served
  served_other d ne = rw (ne_eqb d depot ne)

  pub served_count : waiting (served q depot) depot ≡ waiting q depot - 1
  served_count = rw (served_here, length-drop)

  pub served_total : depot < 30 → 0 < waiting q depot → total 30 (waiting (served q depot)) + 1 ≡ total 30 (waiting q)
  served_total l h =
      omega (
        arith,
        served_count,
        total_one 30 depot (waiting (served q depot)) (waiting q) l (λ d ne. ap (λ (x : List Block). length x) (served_other d ne)),
      )

  pub served_reserved : depot < 30 → reserved (waiting (served q depot)) ≤ reserved (waiting q)
  unfolding reserved
  served_reserved l =
      omega (
        arith,
        served_count,
        total_one 30 depot (λ d. max 4 (waiting (served q depot) d)) (λ d. max 4 (waiting q d)) l
            (λ d ne. ap (λ (x : List Block). max 4 (length x)) (served_other d ne)),
      )
