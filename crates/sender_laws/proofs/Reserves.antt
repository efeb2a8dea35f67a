-- The places that are kept: at most 8 a depot and 150 in all, and a depot with under 4 waiting never meets 18 or 19.
use mathlib.Core.Path.{◌≡◌}
use Prim.Native.Nat.{ℕ, ◌+◌, ◌<◌, max}
use native.Mathlib.Omega.{arith}
use Rattle.refusal.specs.declared.Refusal.{Refusal}
use Rattle.sender.specs.Queues.{Block, Queues, new, waiting, hand_answer}
use Rattle.sender.specs.Runs.{run}
use Rattle.sender.proofs.Steps.{one_more_reserved}
use Rattle.sender.proofs.Cases.{HandCase, hand_case}
use Rattle.sender.proofs.Reached.{Sound, reached, places_suffice}
use Rattle.sender_laws.specs.Laws.{Room, Reserved}
use Rattle.std.proofs.Common.{Err}
use Rattle.refusal.specs.Refused.{Answered, number_of}

pub room : Room
room = record { own = λ calls d. (reached calls).few d; all = λ calls. places_suffice (run new calls) (reached calls) }

-- where one block more leaves the larger of 4 and the depot's blocks at 4
module _ (q : Queues) (s : Sound q) (d : ℕ) (b : Block) (few : max 4 (waiting q d + 1) ≡ 4) where
  not_for_room : (a : Answered Unit) → HandCase (waiting q) d b a → (r : Refusal) → a ≡ Err r → number_of r.reason < 18
  not_for_room a (HandCase.faulty f h) r e = let p : f ≡ r = cc in rw (← p) (omega arith)
  not_for_room a (HandCase.full l h) r e = absurd (omega arith)
  not_for_room a (HandCase.crowded l w h) r e = absurd (omega (arith, one_more_reserved (waiting q) d l, s.sum))
  not_for_room a (HandCase.takes t) r e = absurd cc

pub reserved : Reserved
reserved = record {
  never = λ calls d b r few.
      not_for_room (run new calls) (reached calls) d b (omega arith) (hand_answer (waiting (run new calls)) d b)
      (hand_case (waiting (run new calls)) d b) r;
}
