-- Order 7, "Thirty stations, one transmitter": what waits at each depot, whose turn it is, and what a call answers and leaves.
use Rattle.std.specs.Prelude.{cond, List, [], ◌∷◌, ◌++◌, ℕ, ◌+◌, ◌%◌, max, ltb, leb, eqb, length, get_or, drop, Ok, Err, Option, Some, None}
use Rattle.lists.specs.Sums.{total}
use Rattle.lists.specs.Places.{first}
use Rattle.refusal.specs.Refused.{Answered, refused_at}
use Rattle.block_encoder.specs.Checking.{check_codes}
use Rattle.block_encoder.specs.Encoding.{encoded_into}
use Rattle.refusal.specs.declared.Reason.{Reason}
use Rattle.sender.specs.declared.Served.{Served}

-- a block as it was handed in
pub record Block : Type 0 where
  pub mode : ℕ
  pub codes : List ℕ

-- the blocks that wait at each depot, oldest first, and the depot that the next send looks at first
pub record Queues : Type 0 where
  pub at : ℕ → List Block
  pub turn : ℕ

unfoldable pub new : Queues
new = record { at = λ d. []; turn = 0 }

abbrev pub waiting : Queues → ℕ → ℕ
waiting q d = length (q.at d)

-- ---- handing in. Checks: 1, 5, 6, 17, 18, 19

-- the sum over all depots of the larger of 4 and its waiting blocks
unfoldable pub reserved : (ℕ → ℕ) → ℕ
reserved counts = total 30 (λ d. max 4 (counts d))

-- the counts of waiting blocks after taking one of this depot
unfoldable pub one_more : (ℕ → ℕ) → ℕ → ℕ → ℕ
one_more counts depot d = cond (eqb d depot) (counts d + 1) (counts d)

unfoldable pub place_answer : (ℕ → ℕ) → ℕ → Answered Unit
place_answer counts depot =
    cond (ltb 29 depot) (Err (refused_at Reason.Depot 0))
    (cond (leb 8 (counts depot)) (Err (refused_at Reason.DepotFull depot))
    (cond (ltb 150 (reserved (one_more counts depot))) (Err (refused_at Reason.AllFull depot))
    (Ok tt)))

-- Mode and block checks come first.
unfoldable pub after_check : Answered Unit → Answered Unit → Answered Unit
after_check (Ok u) a = a
after_check (Err r) a = Err r

unfoldable pub hand_answer : (ℕ → ℕ) → ℕ → Block → Answered Unit
hand_answer counts depot b = after_check (check_codes b.mode b.codes) (place_answer counts depot)

-- a block more at the end of its depot's queue
unfoldable pub joined : Queues → ℕ → Block → Queues
joined q depot b = record { at = λ d. cond (eqb d depot) (q.at d ++ (b ∷ [])) (q.at d); turn = q.turn }

-- the queues after an answer
unfoldable pub handed_by : Answered Unit → Queues → ℕ → Block → Queues
handed_by (Ok u) q depot b = joined q depot b
handed_by (Err r) q depot b = q

-- ---- sending. Check: 9

-- how many depots without a block stand before the first with one, from the turn on, 29 followed by 0; 30 if none has one
unfoldable pub ahead : ℕ → (ℕ → ℕ) → ℕ
ahead turn counts = first (λ k. ltb 0 (counts ((turn + k) % 30))) 30

unfoldable pub next_depot : Queues → ℕ
next_depot q = (q.turn + ahead q.turn (waiting q)) % 30

unfoldable pub oldest : Queues → ℕ → Block
oldest q d = get_or (q.at d) 0 (record { mode = 0; codes = [] })

-- the answer for an output of room tones: the depot served and the mode of its block, or None if no depot has one
unfoldable pub send_answer : Queues → ℕ → Answered (Option Served)
send_answer q room =
    cond (ltb room 64) (Err (refused_at Reason.Room 0))
    (cond (ltb (ahead q.turn (waiting q)) 30) (Ok (Some (record { depot = next_depot q; mode = (oldest q (next_depot q)).mode })))
    (Ok None))

-- without the oldest block of a depot, which was served last
unfoldable pub served : Queues → ℕ → Queues
served q depot = record { at = λ d. cond (eqb d depot) (drop 1 (q.at d)) (q.at d); turn = (depot + 1) % 30 }

-- the queues after an answer
unfoldable pub sent_by : Answered (Option Served) → Queues → Queues
sent_by (Ok (Some s)) q = served q s.depot
sent_by (Ok None) q = q
sent_by (Err r) q = q

-- the output after an answer: the tones of the depot's oldest block at its front, or as it was
unfoldable pub tones_by : Answered (Option Served) → Queues → List ℕ → List ℕ
tones_by (Ok (Some s)) q tones = encoded_into s.mode (oldest q s.depot).codes tones
tones_by (Ok None) q tones = tones
tones_by (Err r) q tones = tones
