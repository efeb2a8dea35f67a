-- What is counted from the answers to a run of calls, and each depot's blocks in order.
use Rattle.std.specs.Prelude.{cond, List, [], ◌∷◌, ◌++◌, ℕ, ◌+◌, eqb, Ok, Err, Some, None}
use Rattle.sender.specs.Queues.{Block, Queues, oldest}
use Rattle.sender.specs.Runs.{Call, hand, send, Answer, to_hand, to_send, answer, after}

unfoldable pub answers : Queues → List Call → List Answer
answers q [] = []
answers q (c ∷ calls) = answer q c ∷ answers (after q c) calls

-- ---- counted from the answers

unfoldable pub counted : (Answer → ℕ) → List Answer → ℕ
counted f [] = 0
counted f (a ∷ answers) = f a + counted f answers

-- a block was taken
unfoldable pub taken : Answer → ℕ
taken (to_hand (Ok u)) = 1
taken (to_hand (Err r)) = 0
taken (to_send s) = 0

-- a block was sent
unfoldable pub sent : Answer → ℕ
sent (to_hand h) = 0
sent (to_send (Ok (Some s))) = 1
sent (to_send (Ok None)) = 0
sent (to_send (Err r)) = 0

-- a block of this depot was sent
unfoldable pub serves : ℕ → Answer → ℕ
serves depot (to_hand h) = 0
serves depot (to_send (Ok (Some s))) = cond (eqb depot s.depot) 1 0
serves depot (to_send (Ok None)) = 0
serves depot (to_send (Err r)) = 0

-- a send was not refused
unfoldable pub unrefused : Answer → ℕ
unrefused (to_hand h) = 0
unrefused (to_send (Ok (Some s))) = 1
unrefused (to_send (Ok None)) = 1
unrefused (to_send (Err r)) = 0

-- ---- a depot's blocks, in order

-- the block of this depot that a call with this answer hands in, if it is taken
unfoldable pub accepted : ℕ → Call → Answer → List Block
accepted depot (hand d b) (to_hand (Ok u)) = cond (eqb depot d) (b ∷ []) []
accepted depot (hand d b) (to_hand (Err r)) = []
accepted depot (hand d b) (to_send s) = []
accepted depot (send tones) a = []

-- the block of this depot that a call with this answer sends, its oldest
unfoldable pub departed : ℕ → Queues → Answer → List Block
departed depot q (to_hand h) = []
departed depot q (to_send (Ok (Some s))) = cond (eqb depot s.depot) (oldest q s.depot ∷ []) []
departed depot q (to_send (Ok None)) = []
departed depot q (to_send (Err r)) = []

unfoldable pub all_accepted : ℕ → Queues → List Call → List Block
all_accepted depot q [] = []
all_accepted depot q (c ∷ calls) = accepted depot c (answer q c) ++ all_accepted depot (after q c) calls

unfoldable pub all_departed : ℕ → Queues → List Call → List Block
all_departed depot q [] = []
all_departed depot q (c ∷ calls) = departed depot q (answer q c) ++ all_departed depot (after q c) calls
