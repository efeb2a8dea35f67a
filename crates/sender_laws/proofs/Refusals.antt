-- Calls that change nothing, and what "none waiting" tells.
use mathlib.Core.Path.{◌≡◌}
use Prim.Native.Nat.{ℕ, ◌<◌}
use Rattle.sender.specs.Queues.{Queues, new, waiting, handed_by, send_answer, sent_by, tones_by}
use Rattle.sender.specs.declared.Served.{Served}
use Rattle.sender.specs.Runs.{after, run}
use Rattle.sender.proofs.Cases.{SendCase, send_case}
use Rattle.sender.proofs.Reached.{reached}
use Rattle.sender_laws.specs.Laws.{NoneOnly, Unchanged}
use Rattle.std.proofs.Common.{Ok, Option, None}
use Rattle.refusal.specs.Refused.{Answered}

none_waits : (q : Queues) (room : ℕ) (a : Answered (Option Served)) → SendCase q room a → a ≡ Ok None → (d : ℕ) → d < 30 → waiting q d ≡ 0
none_waits q room a (SendCase.short h) e d l = absurd cc
none_waits q room a (SendCase.none h w) e d l = w d l
none_waits q room a (SendCase.one h k n w) e d l = absurd cc

pub none_only : NoneOnly
unfolding tones_by
none_only = record {
  empty = λ calls room e. none_waits (run new calls) room (send_answer (run new calls) room) (send_case (run new calls) room (reached calls).turn) e;
  output = λ q tones e. rw e;
}

pub unchanged : Unchanged
unfolding after handed_by sent_by
unchanged = record { not_taken = λ q depot b r e. rw e; not_sent = λ q tones r e. rw e; none = λ q tones e. rw e }
