-- What a call does: nothing, or it takes a block, or it serves the next depot.
use mathlib.Core.List.{List}
use mathlib.Core.Path.{◌≡◌}
use Prim.Native.Nat.{ℕ, ◌<◌}
use lib.ListN.{length}
use Rattle.refusal.specs.declared.Refusal.{Refusal}
use Rattle.refusal.specs.Refused.{Answered, refused_at}
use Rattle.sender.specs.Queues.{Block, Queues, waiting, hand_answer, joined, handed_by, next_depot, oldest, send_answer, served, sent_by}
use Rattle.sender.specs.Runs.{Call, hand, send, Answer, to_hand, to_send, answer, after}
use Rattle.sender.proofs.Cases.{Takes, HandCase, hand_case, SendCase, send_case}
use Rattle.std.proofs.Common.{Ok, Err, Option, Some, None}
use Rattle.refusal.specs.declared.Reason.{Reason}
use Rattle.sender.specs.declared.Served.{Served}

-- a call, its answer and the queues that it leaves
pub data CallCase (q : Queues) : Call → Answer → Queues → Type 0 where
  not_taken : (depot : ℕ) (b : Block) (r : Refusal) → CallCase q (hand depot b) (to_hand (Err r)) q
  takes : (depot : ℕ) (b : Block) → Takes (waiting q) depot b → CallCase q (hand depot b) (to_hand (Ok (tt {0}))) (joined q depot b)
  not_sent : (tones : List ℕ) (r : Refusal) → CallCase q (send tones) (to_send (Err r)) q
  none : (tones : List ℕ) → ((d : ℕ) → d < 30 → waiting q d ≡ 0) → CallCase q (send tones) (to_send (Ok None)) q
  serves : (tones : List ℕ) → next_depot q < 30 → 0 < waiting q (next_depot q)
      → CallCase q (send tones) (to_send (Ok (Some (record { depot = next_depot q; mode = (oldest q (next_depot q)).mode }))))
      (served q (next_depot q))

module _ (q : Queues) where
  hand_call : (depot : ℕ) (b : Block) (a : Answered Unit) → HandCase (waiting q) depot b a
      → CallCase q (hand depot b) (to_hand a) (handed_by a q depot b)
  unfolding handed_by
  hand_call depot b a (HandCase.faulty r h) = CallCase.not_taken depot b r
  hand_call depot b a (HandCase.full l h) = CallCase.not_taken depot b (refused_at Reason.DepotFull depot)
  hand_call depot b a (HandCase.crowded l w h) = CallCase.not_taken depot b (refused_at Reason.AllFull depot)
  hand_call depot b a (HandCase.takes t) = CallCase.takes depot b t

  send_call : (tones : List ℕ) (a : Answered (Option Served)) → SendCase q (length tones) a → CallCase q (send tones) (to_send a) (sent_by a q)
  unfolding sent_by
  send_call tones a (SendCase.short h) = CallCase.not_sent tones (refused_at Reason.Room 0)
  send_call tones a (SendCase.none h z) = CallCase.none tones z
  send_call tones a (SendCase.one h l n w) = CallCase.serves tones n w

  pub call_case : q.turn < 30 → (c : Call) → CallCase q c (answer q c) (after q c)
  unfolding answer after
  call_case t (hand depot b) = hand_call depot b (hand_answer (waiting q) depot b) (hand_case (waiting q) depot b)
  call_case t (send tones) = send_call tones (send_answer q (length tones)) (send_case q (length tones) t)
