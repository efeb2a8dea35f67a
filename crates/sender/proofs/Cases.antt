-- The answers to one call, each with the checks that lead to it.
use mathlib.Core.Path.{◌≡◌, refl, sym, ◌∙◌, ap}
use mathlib.Core.Bool.{Bool, true, false, cond}
use Prim.Native.Nat.{ℕ, ◌+◌, ◌<◌, ◌≤◌, ◌%◌}
use native.Mathlib.Decide.{dec_lt}
use native.Mathlib.Omega.{arith}
use borrow.Author.Tests.{ltb-true, ltb-false, leb-true, leb-false}
use lib.Dec.{ltb, leb}
use Rattle.lists.specs.Laws.{IsFirst}
use Rattle.lists.proofs.Places.{first_is}
use Rattle.refusal.specs.declared.Refusal.{Refusal}
use Rattle.refusal.specs.Refused.{Answered, number_of, refused_at}
use Rattle.block_encoder.specs.Checking.{check_codes}
use Rattle.block_encoder.proofs.CheckCases.{RightCodes, CheckCase, check_case}
use Rattle.sender.specs.Queues.{Block, Queues, waiting, reserved, one_more, place_answer, after_check, hand_answer, ahead, next_depot, oldest, send_answer}
use Rattle.sender.proofs.Rounds.{distance, round_small, distance_small, distance_reaches}
use Rattle.std.proofs.Common.{Ok, Err, Option, Some, None}
use Rattle.refusal.specs.declared.Reason.{Reason}
use Rattle.sender.specs.declared.Served.{Served}

-- ---- handing in

-- every check is passed
pub record Takes (counts : ℕ → ℕ) (depot : ℕ) (b : Block) : Type 0 where
  pub right : RightCodes b.mode b.codes
  pub known : depot < 30
  pub own : counts depot < 8
  pub sum : reserved (one_more counts depot) ≤ 150

pub data HandCase (counts : ℕ → ℕ) (depot : ℕ) (b : Block) : Answered Unit → Type 0 where
  -- 1, 5, 6 or 17
  faulty : (r : Refusal) → number_of r.reason ≤ 17 → HandCase counts depot b (Err r)
  full : depot < 30 → 8 ≤ counts depot → HandCase counts depot b (Err (refused_at Reason.DepotFull depot))
  crowded : depot < 30 → counts depot < 8 → 150 < reserved (one_more counts depot) → HandCase counts depot b (Err (refused_at Reason.AllFull depot))
  takes : Takes counts depot b → HandCase counts depot b (Ok (tt {0}))

module _ (counts : ℕ → ℕ) (depot : ℕ) (b : Block) where
  place_case : RightCodes b.mode b.codes → HandCase counts depot b (place_answer counts depot)
  unfolding place_answer number_of
  place_case right = depot_check (ltb 29 depot) refl
    where
      sum : ℕ
      sum = reserved (one_more counts depot)

      sum_check : depot < 30 → counts depot < 8 → (t : Bool) → ltb 150 sum ≡ t
          → HandCase counts depot b (cond t (Err (refused_at Reason.AllFull depot)) (Ok (tt {0})))
      sum_check l w true e = HandCase.crowded l w (ltb-true 150 sum e)
      sum_check l w false e = HandCase.takes (record { right = right; known = l; own = w; sum = ltb-false 150 sum e })

      own_check : depot < 30 → (t : Bool) → leb 8 (counts depot) ≡ t
          → HandCase counts depot b
          (cond t (Err (refused_at Reason.DepotFull depot)) (cond (ltb 150 sum) (Err (refused_at Reason.AllFull depot)) (Ok (tt {0}))))
      own_check l true e = HandCase.full l (leb-true 8 (counts depot) e)
      own_check l false e = sum_check l (leb-false 8 (counts depot) e) (ltb 150 sum) refl

      depot_check : (t : Bool) → ltb 29 depot ≡ t
          → HandCase counts depot b
          (cond t (Err (refused_at Reason.Depot 0))
          (cond (leb 8 (counts depot)) (Err (refused_at Reason.DepotFull depot))
          (cond (ltb 150 sum) (Err (refused_at Reason.AllFull depot)) (Ok (tt {0})))))
      depot_check true e = HandCase.faulty (refused_at Reason.Depot 0) (omega arith)
      depot_check false e = own_check (omega (arith, ltb-false 29 depot e)) (leb 8 (counts depot)) refl

  pub hand_case : HandCase counts depot b (hand_answer counts depot b)
  unfolding hand_answer
  hand_case = by (check_codes b.mode b.codes) (check_case b.mode b.codes)
    where
      by : (k : Answered Unit) → CheckCase b.mode b.codes k → HandCase counts depot b (after_check k (place_answer counts depot))
      by k (CheckCase.wrong r h) = unfold after_check in HandCase.faulty r (omega arith)
      by k (CheckCase.right right) = unfold after_check in place_case right

  pub taken_checks : {u : Unit {0}} → hand_answer counts depot b ≡ Ok u → Takes counts depot b
  taken_checks = by (hand_answer counts depot b) hand_case
    where
      by : (a : Answered Unit) → HandCase counts depot b a → a ≡ (Ok (tt {0})) → Takes counts depot b
      by a (HandCase.faulty r h) e = absurd cc
      by a (HandCase.full l h) e = absurd cc
      by a (HandCase.crowded l w h) e = absurd cc
      by a (HandCase.takes t) e = t

-- ---- sending

pub data SendCase (q : Queues) (room : ℕ) : Answered (Option Served) → Type 0 where
  short : room < 64 → SendCase q room (Err (refused_at Reason.Room 0))
  none : 64 ≤ room → ((d : ℕ) → d < 30 → waiting q d ≡ 0) → SendCase q room (Ok None)
  one : 64 ≤ room → ahead q.turn (waiting q) < 30 → next_depot q < 30 → 0 < waiting q (next_depot q)
      → SendCase q room (Ok (Some (record { depot = next_depot q; mode = (oldest q (next_depot q)).mode })))

module _ (turn : ℕ) (counts : ℕ → ℕ) where
  ahead_first : IsFirst (λ k. ltb 0 (counts ((turn + k) % 30))) 30 (ahead turn counts)
  unfolding ahead
  ahead_first = first_is (λ k. ltb 0 (counts ((turn + k) % 30))) 30

  pub ahead_some : ahead turn counts < 30 → 0 < counts ((turn + ahead turn counts) % 30)
  ahead_some l = ltb-true 0 (counts ((turn + ahead turn counts) % 30)) (ahead_first.holds l)

  -- a depot with a block is no nearer to the turn than the first with one
  pub ahead_least : (d : ℕ) → turn < 30 → d < 30 → 0 < counts d → ahead turn counts ≤ distance turn d
  ahead_least d t l h = by (dec_lt (distance turn d) (ahead turn counts))
    where
      by : Dec (distance turn d < ahead turn counts) → ahead turn counts ≤ distance turn d
      by (yes g) =
          let e = ap (λ (x : ℕ). ltb 0 (counts x)) (sym (distance_reaches turn d t l)) ∙ ahead_first.lowest (distance turn d) g in
          absurd (omega (arith, ltb-false 0 (counts d) e))
      by (no g) = omega arith

module _ (q : Queues) where
  pub next_small : next_depot q < 30
  unfolding next_depot
  next_small = round_small (q.turn + ahead q.turn (waiting q))

  pub next_some : ahead q.turn (waiting q) < 30 → 0 < waiting q (next_depot q)
  unfolding next_depot
  next_some = ahead_some q.turn (waiting q)

  pub send_case : (room : ℕ) → q.turn < 30 → SendCase q room (send_answer q room)
  unfolding send_answer
  send_case room t = room_check (ltb room 64) refl
    where
      none_waits : 30 ≤ ahead q.turn (waiting q) → (d : ℕ) → d < 30 → Dec (0 < waiting q d) → waiting q d ≡ 0
      none_waits k d l (yes h) = absurd (omega (arith, ahead_least q.turn (waiting q) d t l h, distance_small q.turn d t l))
      none_waits k d l (no h) = omega arith

      next_check : 64 ≤ room → (s : Bool) → ltb (ahead q.turn (waiting q)) 30 ≡ s
          → SendCase q room (cond s (Ok (Some (record { depot = next_depot q; mode = (oldest q (next_depot q)).mode }))) (Ok None))
      next_check r true e = let l = ltb-true (ahead q.turn (waiting q)) 30 e in SendCase.one r l next_small (next_some l)
      next_check r false e = SendCase.none r (λ d l. none_waits (ltb-false (ahead q.turn (waiting q)) 30 e) d l (dec_lt 0 (waiting q d)))

      room_check : (s : Bool) → ltb room 64 ≡ s
          → SendCase q room
          (cond s (Err (refused_at Reason.Room 0))
          (cond (ltb (ahead q.turn (waiting q)) 30) (Ok (Some (record { depot = next_depot q; mode = (oldest q (next_depot q)).mode }))) (Ok None)))
      room_check true e = SendCase.short (ltb-true room 64 e)
      room_check false e = next_check (ltb-false room 64 e) (ltb (ahead q.turn (waiting q)) 30) refl
