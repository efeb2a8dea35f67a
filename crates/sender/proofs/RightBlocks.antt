-- Every block that waits after a run of calls has passed checks 1, 5 and 6.
use mathlib.Core.List.{List, [], ◌∷◌, ◌++◌}
use mathlib.Core.Path.{◌≡◌}
use Prim.Native.Nat.{ℕ, zero, suc, ◌<◌}
use native.Mathlib.Decide.{ℕ_discrete}
use native.Mathlib.Omega.{arith}
use lib.ListN.{length, get_or, drop}
use Rattle.block_encoder.proofs.CheckCases.{RightCodes}
use Rattle.sender.specs.Queues.{Block, Queues, new, waiting, joined, next_depot, oldest, served}
use Rattle.sender.specs.Runs.{Call, Answer, answer, after, run}
use Rattle.sender.proofs.Steps.{joined_here, joined_other, served_here, served_other}
use Rattle.sender.proofs.Calls.{CallCase, call_case}
use Rattle.sender.proofs.Reached.{Sound, new_sound, after_sound}

data AllRight : List Block → Type 0 where
  none : AllRight []
  more : {b : Block} {l : List Block} → RightCodes b.mode b.codes → AllRight l → AllRight (b ∷ l)

right_last : {l : List Block} {b : Block} → AllRight l → RightCodes b.mode b.codes → AllRight (l ++ (b ∷ []))
right_last AllRight.none g = AllRight.more g AllRight.none
right_last (AllRight.more f a) g = AllRight.more f (right_last a g)

right_rest : {l : List Block} → AllRight l → AllRight (drop 1 l)
right_rest AllRight.none = AllRight.none
right_rest (AllRight.more f a) = a

right_at : (z : Block) {l : List Block} → AllRight l → (i : ℕ) → i < length l → RightCodes (get_or l i z).mode (get_or l i z).codes
right_at z AllRight.none i h = absurd (omega arith)
right_at z (AllRight.more f a) zero h = f
right_at z (AllRight.more f a) (suc i) h = right_at z a i (omega arith)

record Whole (q : Queues) : Type 0 where
  each : (d : ℕ) → AllRight (q.at d)

module _ (q : Queues) (w : Whole q) where
  joined_whole : (depot : ℕ) (b : Block) → RightCodes b.mode b.codes → Whole (joined q depot b)
  joined_whole depot b g = record { each = λ d. by d (ℕ_discrete d depot) }
    where
      by : (d : ℕ) → Dec (d ≡ depot) → AllRight ((joined q depot b).at d)
      by d (yes e) = rw (e, joined_here q depot b) (right_last (w.each depot) g)
      by d (no ne) = rw (joined_other q depot b d ne) (w.each d)

  served_whole : (depot : ℕ) → Whole (served q depot)
  served_whole depot = record { each = λ d. by d (ℕ_discrete d depot) }
    where
      by : (d : ℕ) → Dec (d ≡ depot) → AllRight ((served q depot).at d)
      by d (yes e) = rw (e, served_here q depot) (right_rest (w.each depot))
      by d (no ne) = rw (served_other q depot d ne) (w.each d)

  call_whole : (c : Call) (a : Answer) (q' : Queues) → CallCase q c a q' → Whole q'
  call_whole c a q' (CallCase.not_taken depot b r) = w
  call_whole c a q' (CallCase.takes depot b t) = joined_whole depot b t.right
  call_whole c a q' (CallCase.not_sent tones r) = w
  call_whole c a q' (CallCase.none tones z) = w
  call_whole c a q' (CallCase.serves tones n k) = served_whole (next_depot q)

run_whole : (calls : List Call) (q : Queues) → Sound q → Whole q → Whole (run q calls)
unfolding run
run_whole [] q s w = w
run_whole (c ∷ calls) q s w =
    run_whole calls (after q c) (after_sound q s c) (call_whole q w c (answer q c) (after q c) (call_case q s.turn c))

new_whole : Whole new
unfolding new
new_whole = record { each = λ d. AllRight.none }

pub oldest_right : (calls : List Call) (d : ℕ) → 0 < waiting (run new calls) d
    → RightCodes (oldest (run new calls) d).mode (oldest (run new calls) d).codes
unfolding oldest
oldest_right calls d h = right_at (record { mode = 0; codes = [] }) ((run_whole calls new new_sound new_whole).each d) _ (omega (arith, h))
