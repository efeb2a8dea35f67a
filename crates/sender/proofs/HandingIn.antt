-- What handing in promises, from the answer by the counts that the bytes hold.
use mathlib.Core.Path.{◌≡◌, refl, sym, ◌∙◌}
use mathlib.Core.List.{List}
use Prim.Native.Nat.{ℕ}
use native.Mathlib.Omega.{arith}
use lib.ListN.{length}
use Rattle.refusal.specs.declared.Refusal.{Refusal}
use Rattle.sender.specs.Queues.{Block, Queues, new, waiting, joined, hand_answer, handed_by}
use Rattle.sender.specs.Runs.{Call, hand, after, run}
use Rattle.sender.specs.State.{counts_in, Holds}
use Rattle.sender.specs.Sending.{HandedIn, HandedToAny}
use Rattle.sender.specs.Internal.{Stored}
use Rattle.sender.proofs.Steps.{answer_ext, joined_total}
use Rattle.sender.proofs.Cases.{taken_checks}
use Rattle.sender.proofs.Reached.{after_sound, places_suffice, reached}
use Rattle.std.proofs.Common.{Ok, Err}

module _ (state : List ℕ) (depot : ℕ) (b : Block) where
  -- the queues answer as their counts do
  answer_held : (q : Queues) → Holds q state → hand_answer (counts_in state) depot b ≡ hand_answer (waiting q) depot b
  answer_held q h = answer_ext (counts_in state) (waiting q) h.counts depot b

  module _ (size : length state ≡ 1532) (r : Refusal) (e : hand_answer (counts_in state) depot b ≡ Err r) where
    pub refused_in : HandedIn state depot b (Err r) state × HandedToAny state depot b (Err r) state
    unfolding after handed_by
    refused_in = (
      record {
        answered = λ calls h. sym e ∙ answer_held (run new calls) h;
        left = λ calls h. rw (sym (answer_held (run new calls) h) ∙ e) h;
      },
      record { answered = λ n. sym e; other_size = λ ne. absurd (ne size); kept = λ s p. refl },
    )

  module _ (size : length state ≡ 1532) (next : List ℕ) (e : hand_answer (counts_in state) depot b ≡ Ok (tt {0}))
      (stored : Stored state depot b next) where
    module _ (calls : List Call) (h : Holds (run new calls) state) where
      taken : hand_answer (waiting (run new calls)) depot b ≡ (Ok (tt {0}))
      taken = sym (answer_held (run new calls) h) ∙ e

      now_joined : after (run new calls) (hand depot b) ≡ joined (run new calls) depot b
      unfolding after handed_by
      now_joined = rw taken

      taken_left : Holds (after (run new calls) (hand depot b)) next
      taken_left =
          let t = taken_checks (waiting (run new calls)) depot b taken in
          let sound = after_sound (run new calls) (reached calls) (hand depot b) in
          let fit = rw now_joined at (places_suffice (after (run new calls) (hand depot b)) sound) in
          rw now_joined (stored.left (run new calls) h (omega (arith, fit, joined_total (run new calls) depot b t.known)) t.right.count)

    pub taken_in : HandedIn state depot b (Ok (tt {0})) next × HandedToAny state depot b (Ok (tt {0})) next
    taken_in = (
      record { answered = λ calls h. sym (taken calls h); left = taken_left },
      record { answered = λ n. sym e; other_size = λ ne. absurd (ne size); kept = λ r p. absurd cc },
    )
