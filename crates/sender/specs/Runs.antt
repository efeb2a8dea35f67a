-- Runs of calls, each getting the state that the last one left.
use Rattle.std.specs.Prelude.{List, [], ◌∷◌, ℕ, length, Option}
use Rattle.sender.specs.Queues.{Block, Queues, waiting, hand_answer, handed_by, send_answer, sent_by}
use Rattle.refusal.specs.Refused.{Answered}
use Rattle.sender.specs.declared.Served.{Served}

-- a depot hands in a block, or a block is sent into an output
pub data Call : Type 0 where
  hand : ℕ → Block → Call
  send : List ℕ → Call

pub data Answer : Type 0 where
  to_hand : Answered Unit → Answer
  to_send : Answered (Option Served) → Answer

unfoldable pub answer : Queues → Call → Answer
answer q (hand depot b) = to_hand (hand_answer (waiting q) depot b)
answer q (send tones) = to_send (send_answer q (length tones))

unfoldable pub after : Queues → Call → Queues
after q (hand depot b) = handed_by (hand_answer (waiting q) depot b) q depot b
after q (send tones) = sent_by (send_answer q (length tones)) q

unfoldable pub run : Queues → List Call → Queues
run q [] = q
run q (c ∷ calls) = run (after q c) calls
