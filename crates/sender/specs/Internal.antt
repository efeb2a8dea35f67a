-- What only private contracts need: what the steps of a call do to the bytes.
use Rattle.std.specs.Prelude.{◌≡◌, Bool, List, ℕ, ◌+◌, ◌*◌, ◌<◌, ◌≤◌, eqb, length, Ok, Option, Some, None}
use Rattle.lists.specs.Lists.{num}
use Rattle.lists.specs.Sums.{total}
use Rattle.lists.specs.Places.{first}
use Rattle.block_encoder.specs.Encoding.{encode_block, encoded_into}
use Rattle.sender.specs.Queues.{Block, Queues, waiting, oldest, joined, served}
use Rattle.sender.specs.State.{filled, Holds}
use Rattle.sender.specs.Sending.{Unchanged, WritesText}
use Rattle.sender.specs.declared.Served.{Served}

-- ---- handing in

-- a place with the block, the other places and what follows them as they were
pub record Put (bytes : List ℕ) (place depot : ℕ) (b : Block) (next : List ℕ) : Type 0 where
  pub size : length next ≡ 1532
  pub its_depot : num next (10 * place) ≡ depot
  pub its_mode : num next (10 * place + 1) ≡ b.mode
  pub its_codes : (k : ℕ) → k < length b.codes → num next (10 * place + 2 + k) ≡ num b.codes k
  pub before : (j : ℕ) → j < 10 * place → num next j ≡ num bytes j
  pub beyond : (j : ℕ) → 10 * place + 10 ≤ j → num next j ≡ num bytes j

-- the block joins its depot's queue
pub record Stored (bytes : List ℕ) (depot : ℕ) (b : Block) (next : List ℕ) : Type 0 where
  pub left : (q : Queues) → Holds q bytes → total 30 (waiting q) < 150 → length b.codes ≡ b.mode → Holds (joined q depot b) next

-- ---- sending

abbrev pub is_of : ℕ → List ℕ → ℕ → Bool
is_of depot bytes i = eqb (num bytes (10 * i)) depot

-- the first of the count places with a block of the depot, else count
unfoldable pub place_with : ℕ → List ℕ → ℕ → ℕ
place_with depot bytes count = first (is_of depot bytes) count

-- the places after one of the count moved up, the other bytes as they were
pub record Removed (at count : ℕ) (bytes next : List ℕ) : Type 0 where
  pub size : length next ≡ 1532
  pub before : (j : ℕ) → j < 10 * at → num next j ≡ num bytes j
  pub moved : (j : ℕ) → 10 * at ≤ j → j + 10 < 10 * count → num next j ≡ num bytes (j + 10)
  pub beyond : (j : ℕ) → 1500 ≤ j → num next j ≡ num bytes j

-- the depot's first block has left its queue
pub record TakenOut (bytes : List ℕ) (depot at : ℕ) (next : List ℕ) : Type 0 where
  pub left : (q : Queues) → Holds q bytes → 0 < waiting q depot → total 30 (waiting q) ≤ 150 → at ≡ place_with depot bytes (filled bytes)
      → Holds (served q depot) next

-- the oldest block of a depot with one is sent
pub record Serves (q : Queues) (depot : ℕ) (tones : List ℕ) (answer : Option Served) (tones' next : List ℕ) : Type 0 where
  pub answered : answer ≡ Some (record { depot = depot; mode = (oldest q depot).mode })
  pub output : tones' ≡ encoded_into (oldest q depot).mode (oldest q depot).codes tones
  pub left : Holds (served q depot) next

pub record ServedFrom (bytes : List ℕ) (depot : ℕ) (tones : List ℕ) (answer : Option Served) (tones' next : List ℕ) : Type 0 where
  pub serves : (q : Queues) → Holds q bytes → 0 < waiting q depot → total 30 (waiting q) ≤ 150
      → encode_block (oldest q depot).mode (oldest q depot).codes (length tones) ≡ Ok 64
      → Serves q depot tones answer tones' next
  pub kept : answer ≡ None → Unchanged bytes tones tones' next
  pub written : (s : Served) → answer ≡ Some s → WritesText s.mode tones tones'
