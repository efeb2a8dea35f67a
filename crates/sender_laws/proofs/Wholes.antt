-- Every waiting block is a text of its mode, so that sending it writes exactly its tones.
use mathlib.Core.List.{List}
use mathlib.Core.Path.{◌≡◌, refl}
use Prim.Native.Nat.{ℕ, ◌<◌, ◌≤◌}
use lib.ListN.{length}
use Rattle.block_encoder.proofs.EncodeCases.{tones_written}
use Rattle.block_encoder.proofs.CheckCases.{right_encoded, right_text}
use Rattle.sender.specs.Queues.{Queues, new, waiting, next_depot, oldest, send_answer, tones_by}
use Rattle.sender.specs.declared.Served.{Served}
use Rattle.sender.specs.Runs.{Call, run}
use Rattle.sender.proofs.Cases.{SendCase, send_case}
use Rattle.sender.proofs.Reached.{reached}
use Rattle.sender.proofs.RightBlocks.{oldest_right}
use Rattle.sender_laws.specs.Laws.{SendsOldest, SentWhole}
use Rattle.std.proofs.Common.{Ok, Option, Some}
use Rattle.refusal.specs.Refused.{Answered}

module _ (calls : List Call) (tones : List ℕ) where
  abbrev q : Queues
  q = run new calls

  sends_oldest : (d : ℕ) → 64 ≤ length tones → d < 30 → 0 < waiting q d → SendsOldest q tones (record { depot = d; mode = (oldest q d).mode })
  unfolding tones_by
  sends_oldest d room l h = record {
    known = l;
    waits = h;
    its_mode = refl;
    text = right_text (oldest q d).mode (oldest q d).codes (oldest_right calls d h);
    written =
        tones_written (oldest q d).mode (oldest q d).codes tones
        (right_encoded (oldest q d).mode (oldest q d).codes (length tones) (oldest_right calls d h) room);
  }

  answer_oldest : (a : Answered (Option Served)) → SendCase q (length tones) a → (s : Served) → a ≡ Ok (Some s) → SendsOldest q tones s
  answer_oldest a (SendCase.short h) s e = absurd cc
  answer_oldest a (SendCase.none h k) s e = absurd cc
  answer_oldest a (SendCase.one h l n k) s e =
      let same : ◌≡◌ {A = Served} (record { depot = next_depot q; mode = (oldest q (next_depot q)).mode }) s = cc in
      rw (← same) (sends_oldest (next_depot q) h n k)

pub sent_whole : SentWhole
sent_whole = record {
  sends = λ calls tones.
      answer_oldest calls tones (send_answer (run new calls) (length tones)) (send_case (run new calls) (length tones) (reached calls).turn);
}
