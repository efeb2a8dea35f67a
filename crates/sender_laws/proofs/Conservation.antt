-- Blocks taken equal blocks sent plus blocks waiting.
use mathlib.Core.List.{List, [], ◌∷◌}
use mathlib.Core.Path.{◌≡◌, refl}
use Prim.Native.Nat.{◌+◌}
use native.Mathlib.Omega.{arith}
use Rattle.lists.specs.Sums.{total}
use Rattle.lists.proofs.Sums.{total_zero}
use Rattle.sender.specs.Queues.{Queues, new, waiting, next_depot}
use Rattle.sender.specs.Runs.{Call, Answer, answer, after, run}
use Rattle.sender.proofs.Steps.{joined_total, served_total}
use Rattle.sender.proofs.Calls.{CallCase, call_case}
use Rattle.sender.proofs.Reached.{Sound, new_sound, after_sound}
use Rattle.sender_laws.specs.Counting.{answers, counted, taken, sent}
use Rattle.sender_laws.specs.Laws.{Conserved}

call_conserves : (q : Queues) (c : Call) (a : Answer) (q' : Queues) → CallCase q c a q'
    → taken a + total 30 (waiting q) ≡ sent a + total 30 (waiting q')
unfolding taken sent
call_conserves q c a q' (CallCase.not_taken depot b r) = refl
call_conserves q c a q' (CallCase.takes depot b t) = omega (arith, joined_total q depot b t.known)
call_conserves q c a q' (CallCase.not_sent tones r) = refl
call_conserves q c a q' (CallCase.none tones z) = refl
call_conserves q c a q' (CallCase.serves tones n w) = omega (arith, served_total q (next_depot q) n w)

run_conserves : (calls : List Call) (q : Queues) → Sound q
    → counted taken (answers q calls) + total 30 (waiting q) ≡ counted sent (answers q calls) + total 30 (waiting (run q calls))
unfolding counted answers run
run_conserves [] q s = refl
run_conserves (c ∷ calls) q s =
    omega (arith, call_conserves q c (answer q c) (after q c) (call_case q s.turn c), run_conserves calls (after q c) (after_sound q s c))

new_empty : total 30 (waiting new) ≡ 0
unfolding new
new_empty = total_zero 30 (waiting new) (λ d l. refl)

pub conserved : Conserved
conserved = record { sums = λ calls. omega (arith, run_conserves calls new new_sound, new_empty) }
