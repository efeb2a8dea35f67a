-- What sending promises, from what the bytes hold.
use mathlib.Core.Path.{◌≡◌, refl, sym, ◌∙◌, ap, ap₂}
use mathlib.Core.List.{List}
use Prim.Native.Nat.{ℕ, ◌+◌, ◌%◌, ◌<◌, ◌≤◌}
use native.Mathlib.Omega.{arith}
use borrow.Author.Tests.{lt-ltb, le-ltb}
use lib.ListN.{length}
use Rattle.lists.specs.Lists.{num}
use Rattle.refusal.specs.declared.Refusal.{Refusal}
use Rattle.refusal.specs.Refused.{refused_at}
use Rattle.block_encoder.proofs.CheckCases.{right_encoded}
use Rattle.sender.specs.Queues.{Queues, new, waiting, ahead, next_depot, oldest, send_answer, sent_by, tones_by}
use Rattle.sender.specs.Runs.{Call, after, run}
use Rattle.sender.specs.State.{counts_in, Holds}
use Rattle.sender.specs.Sending.{SentFrom, is_block, Unchanged, SentFromAny}
use Rattle.sender.specs.Internal.{Serves, ServedFrom}
use Rattle.sender.proofs.Steps.{ahead_ext}
use Rattle.sender.proofs.Cases.{next_some}
use Rattle.sender.proofs.Reached.{places_suffice, reached}
use Rattle.sender.proofs.RightBlocks.{oldest_right}
use Rattle.std.proofs.Common.{false, Ok, Err, Option, Some, None}
use Rattle.refusal.specs.declared.Reason.{Reason}
use Rattle.sender.specs.declared.Served.{Served}

module _ (q : Queues) (room : ℕ) where
  answers_short : room < 64 → send_answer q room ≡ Err (refused_at Reason.Room 0)
  unfolding send_answer
  answers_short h = simp (lt-ltb room 64 h)

  module _ (enough : 64 ≤ room) where
    answers_none : 30 ≤ ahead q.turn (waiting q) → send_answer q room ≡ (Ok None)
    unfolding send_answer
    answers_none h = simp (le-ltb room 64 enough, le-ltb (ahead q.turn (waiting q)) 30 h)

    answers_block : ahead q.turn (waiting q) < 30
        → send_answer q room ≡ Ok (Some (record { depot = next_depot q; mode = (oldest q (next_depot q)).mode }))
    unfolding send_answer
    answers_block h = simp (le-ltb room 64 enough, lt-ltb (ahead q.turn (waiting q)) 30 h)

module _ (state tones : List ℕ) where
  unchanged : Unchanged state tones tones state
  unchanged = record { output = refl; state_kept = refl }

  pub short_sent : {r : Refusal} → r ≡ refused_at Reason.Room 0 → length tones < 64 → SentFrom state tones (Err r) tones state
  unfolding tones_by after sent_by
  short_sent p h = record {
    answered = λ calls k. ap Err p ∙ sym (answers_short (run new calls) (length tones) h);
    output = λ calls k. refl;
    left = λ calls k. rw (answers_short (run new calls) (length tones) h) k;
  }

  module _ (enough : 64 ≤ length tones) where
    -- nothing is sent: of a state of a run because it has none waiting
    none_when : ((calls : List Call) → Holds (run new calls) state → 30 ≤ ahead (run new calls).turn (waiting (run new calls)))
        → SentFrom state tones (Ok None) tones state × SentFromAny state tones (Ok None) tones state
    unfolding tones_by after sent_by
    none_when none = (
      record {
        answered = λ calls k. sym (answers_none (run new calls) (length tones) enough (none calls k));
        output = λ calls k. refl;
        left = λ calls k. rw (answers_none (run new calls) (length tones) enough (none calls k)) k;
      },
      record { short = λ l. absurd (omega arith); only = λ x e. absurd cc; kept = λ e. unchanged; written = λ s e. absurd cc },
    )

    module _ (calls : List Call) (h : Holds (run new calls) state) where
      turn_held : num state 1531 % 30 ≡ (run new calls).turn
      turn_held = omega (arith, h.turn, (reached calls).turn)

      ahead_held : ahead (num state 1531 % 30) (counts_in state) ≡ ahead (run new calls).turn (waiting (run new calls))
      ahead_held = rw turn_held (ahead_ext (counts_in state) (waiting (run new calls)) h.counts (run new calls).turn)

      depot_held : (num state 1531 % 30 + ahead (num state 1531 % 30) (counts_in state)) % 30 ≡ next_depot (run new calls)
      unfolding next_depot
      depot_held = ap₂ (λ (t k : ℕ). (t + k) % 30) turn_held ahead_held

    pub none_sent : 30 ≤ ahead (num state 1531 % 30) (counts_in state)
        → SentFrom state tones (Ok None) tones state × SentFromAny state tones (Ok None) tones state
    none_sent h = none_when (λ calls k. omega (arith, ahead_held calls k))

    module _ (depot : ℕ) (e : depot ≡ (num state 1531 % 30 + ahead (num state 1531 % 30) (counts_in state)) % 30)
        (h : ahead (num state 1531 % 30) (counts_in state) < 30)
        (answer : Option Served) (tones' next : List ℕ) (v : ServedFrom state depot tones answer tones' next) where
      module _ (calls : List Call) (k : Holds (run new calls) state) where
        found : ahead (run new calls).turn (waiting (run new calls)) < 30
        found = omega (arith, ahead_held calls k)

        its_answer : send_answer (run new calls) (length tones)
            ≡ Ok (Some (record { depot = next_depot (run new calls); mode = (oldest (run new calls) (next_depot (run new calls))).mode }))
        its_answer = answers_block (run new calls) (length tones) enough found

        serves : Serves (run new calls) (next_depot (run new calls)) tones answer tones' next
        serves =
            let p : depot ≡ next_depot (run new calls) = e ∙ depot_held calls k in
            let some = next_some (run new calls) found in
            rw p at
            (v.serves (run new calls) k (rw p some) (places_suffice (run new calls) (reached calls))
            (rw p (right_encoded _ _ (length tones) (oldest_right calls (next_depot (run new calls)) some) enough)))

      kept : (a : Option Served) → answer ≡ a → is_block (Ok a) ≡ false → Unchanged state tones tones' next
      unfolding is_block
      kept None p e = v.kept p
      kept (Some s) p e = absurd cc

      pub block_sent : SentFrom state tones (Ok answer) tones' next × SentFromAny state tones (Ok answer) tones' next
      unfolding tones_by after sent_by
      block_sent = (
        record {
          answered = λ calls k. ap Ok (serves calls k).answered ∙ sym (its_answer calls k);
          output = λ calls k. rw (serves calls k).answered (serves calls k).output;
          left = λ calls k. rw (its_answer calls k) (serves calls k).left;
        },
        record { short = λ l. absurd (omega arith); only = λ x e. absurd cc; kept = kept answer refl; written = λ s e. v.written s cc },
      )
