-- The laws of a sender: document 02, order 7. Each is the promise of the function of the same name in src/laws.rt.
-- They hold from a new sender on, each call getting the state that the last one left; that nothing changes holds of any queues.
use Rattle.std.specs.Prelude.{List, ◌++◌, ◌≡◌, ℕ, ◌+◌, ◌<◌, ◌≤◌, length, Ok, Err, Some, None}
use Rattle.lists.specs.Lists.{over}
use Rattle.lists.specs.Sums.{total}
use Rattle.refusal.specs.declared.Refusal.{Refusal}
use Rattle.refusal.specs.Refused.{number_of}
use Rattle.chain.specs.Chain.{tones_of}
use Rattle.block_encoder.specs.Encoding.{IsText}
use Rattle.sender.specs.Queues.{Block, Queues, new, waiting, hand_answer, oldest, send_answer, tones_by}
use Rattle.sender.specs.declared.Served.{Served}
use Rattle.sender.specs.Runs.{Call, hand, send, answer, after, run}
use Rattle.sender_laws.specs.Counting.{answers, counted, taken, sent, serves, unrefused, accepted, departed, all_accepted, all_departed}

-- ---- counts

-- Blocks taken equal blocks sent plus blocks waiting, the first two counted from the calls.
pub record Conserved : Type 0 where
  pub sums : (calls : List Call) → counted taken (answers new calls) ≡ counted sent (answers new calls) + total 30 (waiting (run new calls))

-- A depot has at most 8 waiting, and all depots together at most 150.
pub record Room : Type 0 where
  pub own : (calls : List Call) (d : ℕ) → waiting (run new calls) d ≤ 8
  pub all : (calls : List Call) → total 30 (waiting (run new calls)) ≤ 150

-- A depot with a waiting block is served within 30 sends, refused ones not counted.
pub record Fair : Type 0 where
  pub within : (calls more : List Call) (d : ℕ) → d < 30 → 0 < waiting (run new calls) d
      → 30 ≤ counted unrefused (answers (run new calls) more)
      → 1 ≤ counted (serves d) (answers (run new calls) more)

-- A depot with under 4 waiting never meets 18 or 19.
pub record Reserved : Type 0 where
  pub never : (calls : List Call) (d : ℕ) (b : Block) (r : Refusal) → waiting (run new calls) d < 4
      → hand_answer (waiting (run new calls)) d b ≡ Err r → number_of r.reason < 18

-- ---- each depot's blocks

-- what the depot had, and then the block of it that the call takes, is the block of it that the call sends, and then what it has
abbrev pub OwnChange : Queues → Call → ℕ → Type 0
OwnChange q c d = q.at d ++ accepted d c (answer q c) ≡ departed d q (answer q c) ++ (after q c).at d

-- What a depot has waiting changes only by its own accepted blocks and by sends that serve it.
pub record Own : Type 0 where
  pub changes : (calls : List Call) (c : Call) (d : ℕ) → OwnChange (run new calls) c d

-- Each depot's blocks are sent in the order in which they were taken, with the mode and codes that they were handed in with.
pub record InOrder : Type 0 where
  pub blocks : (calls : List Call) (d : ℕ) → all_accepted d new calls ≡ all_departed d new calls ++ (run new calls).at d

-- ---- what a call writes and leaves

-- "None waiting" is given only if every depot has none, and writes nothing.
pub record NoneOnly : Type 0 where
  pub empty : (calls : List Call) (room : ℕ) → send_answer (run new calls) room ≡ Ok None
      → (d : ℕ) → d < 30 → waiting (run new calls) d ≡ 0
  pub output : (q : Queues) (tones : List ℕ) → send_answer q (length tones) ≡ Ok None
      → tones_by (send_answer q (length tones)) q tones ≡ tones

-- A refused call, and one with none waiting, changes neither queues nor turn.
pub record Unchanged : Type 0 where
  pub not_taken : (q : Queues) (depot : ℕ) (b : Block) (r : Refusal) → hand_answer (waiting q) depot b ≡ Err r → after q (hand depot b) ≡ q
  pub not_sent : (q : Queues) (tones : List ℕ) (r : Refusal) → send_answer q (length tones) ≡ Err r → after q (send tones) ≡ q
  pub none : (q : Queues) (tones : List ℕ) → send_answer q (length tones) ≡ Ok None → after q (send tones) ≡ q

-- the depot's oldest block is a text of the mode, and what is written are its tones
pub record SendsOldest (q : Queues) (tones : List ℕ) (s : Served) : Type 0 where
  pub known : s.depot < 30
  pub waits : 0 < waiting q s.depot
  pub its_mode : (oldest q s.depot).mode ≡ s.mode
  pub text : IsText s.mode (oldest q s.depot).codes
  pub written : tones_by (Ok (Some s)) q tones ≡ over (tones_of s.mode (oldest q s.depot).codes) tones

-- A send takes the depot's oldest block, in the mode it was handed in with, and returns depot and mode.
pub record SentWhole : Type 0 where
  pub sends : (calls : List Call) (tones : List ℕ) (s : Served)
      → send_answer (run new calls) (length tones) ≡ Ok (Some s) → SendsOldest (run new calls) tones s
