-- `place_answer` and `hand_answer`: an equation for each answer, under the checks that lead to it.
use mathlib.Core.Path.{◌≡◌}
use Prim.Native.Nat.{ℕ, ◌<◌, ◌≤◌}
use borrow.Author.Tests.{lt-ltb, le-ltb, le-leb, lt-leb}
use Rattle.refusal.specs.Refused.{refused_at}
use Rattle.refusal.specs.declared.Refusal.{Refusal}
use Rattle.block_encoder.specs.Checking.{check_codes}
use Rattle.sender.specs.Queues.{Block, reserved, one_more, place_answer, after_check, hand_answer}
use Rattle.std.proofs.Common.{Ok, Err}
use Rattle.refusal.specs.declared.Reason.{Reason}

module _ (counts : ℕ → ℕ) (depot : ℕ) where
  pub refuses_depot : 29 < depot → place_answer counts depot ≡ Err (refused_at Reason.Depot 0)
  unfolding place_answer
  refuses_depot h = simp (lt-ltb 29 depot h)

  module _ (l : depot ≤ 29) where
    pub refuses_full : 8 ≤ counts depot → place_answer counts depot ≡ Err (refused_at Reason.DepotFull depot)
    unfolding place_answer
    refuses_full h = simp (le-ltb 29 depot l, le-leb 8 (counts depot) h)

    module _ (own : counts depot < 8) where
      pub refuses_sum : 150 < reserved (one_more counts depot) → place_answer counts depot ≡ Err (refused_at Reason.AllFull depot)
      unfolding place_answer
      refuses_sum h = simp (le-ltb 29 depot l, lt-leb 8 (counts depot) own, lt-ltb 150 (reserved (one_more counts depot)) h)

      pub takes_block : reserved (one_more counts depot) ≤ 150 → place_answer counts depot ≡ (Ok (tt {0}))
      unfolding place_answer
      takes_block h = simp (le-ltb 29 depot l, lt-leb 8 (counts depot) own, le-ltb 150 (reserved (one_more counts depot)) h)

module _ (counts : ℕ → ℕ) (depot : ℕ) (b : Block) where
  pub right_answered : {u : Unit {0}} → check_codes b.mode b.codes ≡ Ok u → hand_answer counts depot b ≡ place_answer counts depot
  unfolding hand_answer after_check
  right_answered e = rw e

  pub wrong_refused : {r : Refusal} → check_codes b.mode b.codes ≡ Err r → hand_answer counts depot b ≡ Err r
  unfolding hand_answer after_check
  wrong_refused e = rw e
