-- Each depot's blocks: what one call adds and takes away, and their order over a run of calls.
use mathlib.Core.Bool.{cond}
use mathlib.Core.List.{List, [], ◌∷◌, ◌++◌, append_assoc, append-nil}
use mathlib.Core.Path.{◌≡◌, refl, sym, ◌∙◌, ap}
use Prim.Native.Nat.{ℕ, ◌<◌}
use native.Mathlib.Decide.{ℕ_discrete}
use native.Mathlib.Omega.{arith}
use borrow.Author.Tests.{eq-eqb, ne_eqb}
use lib.Dec.{eqb}
use lib.ListN.{length, get_or, drop}
use Rattle.sender.specs.Queues.{Block, Queues, new, waiting, joined, next_depot, oldest, served}
use Rattle.sender.specs.Runs.{Call, Answer, answer, after, run}
use Rattle.sender.proofs.Steps.{joined_here, joined_other, served_here, served_other}
use Rattle.sender.proofs.Calls.{CallCase, call_case}
use Rattle.sender.proofs.Reached.{Sound, new_sound, after_sound, reached}
use Rattle.sender_laws.specs.Counting.{accepted, departed, all_accepted, all_departed}
use Rattle.sender_laws.specs.Laws.{OwnChange, Own, InOrder}

first_and_rest : (z : Block) (l : List Block) → 0 < length l → l ≡ get_or l 0 z ∷ drop 1 l
first_and_rest z [] h = absurd (omega arith)
first_and_rest z (b ∷ l) h = refl

module _ (q : Queues) (d : ℕ) where
  joined_own : (depot : ℕ) (b : Block) → Dec (d ≡ depot) → q.at d ++ cond (eqb d depot) (b ∷ []) [] ≡ (joined q depot b).at d
  joined_own depot b (yes e) = rw (eq-eqb d depot e, e, joined_here q depot b)
  joined_own depot b (no ne) = rw (ne_eqb d depot ne, joined_other q depot b d ne) (append-nil (q.at d))

  served_own : (depot : ℕ) → 0 < waiting q depot → Dec (d ≡ depot) → q.at d ≡ cond (eqb d depot) (oldest q depot ∷ []) [] ++ (served q depot).at d
  unfolding oldest
  served_own depot h (yes e) = rw (eq-eqb d depot e, e, served_here q depot) (first_and_rest (record { mode = 0; codes = [] }) (q.at depot) h)
  served_own depot h (no ne) = rw (ne_eqb d depot ne, served_other q depot d ne)

  call_own : (c : Call) (a : Answer) (q' : Queues) → CallCase q c a q' → q.at d ++ accepted d c a ≡ departed d q a ++ q'.at d
  unfolding accepted departed
  call_own c a q' (CallCase.not_taken depot b r) = append-nil (q.at d)
  call_own c a q' (CallCase.takes depot b t) = joined_own depot b (ℕ_discrete d depot)
  call_own c a q' (CallCase.not_sent tones r) = append-nil (q.at d)
  call_own c a q' (CallCase.none tones z) = append-nil (q.at d)
  call_own c a q' (CallCase.serves tones n w) = append-nil (q.at d) ∙ served_own (next_depot q) w (ℕ_discrete d (next_depot q))

after_own : (q : Queues) → Sound q → (c : Call) (d : ℕ) → OwnChange q c d
after_own q s c d = call_own q d c (answer q c) (after q c) (call_case q s.turn c)

run_own : (calls : List Call) (q : Queues) → Sound q → (d : ℕ) → q.at d ++ all_accepted d q calls ≡ all_departed d q calls ++ (run q calls).at d
unfolding all_accepted all_departed run
run_own [] q s d = append-nil (q.at d)
run_own (c ∷ calls) q s d =
    sym (append_assoc (q.at d) (accepted d c (answer q c)) (all_accepted d (after q c) calls))
    ∙ ap (λ (l : List Block). l ++ all_accepted d (after q c) calls) (after_own q s c d)
    ∙ append_assoc (departed d q (answer q c)) ((after q c).at d) (all_accepted d (after q c) calls)
    ∙ ap (λ (l : List Block). departed d q (answer q c) ++ l) (run_own calls (after q c) (after_sound q s c) d)
    ∙ sym (append_assoc (departed d q (answer q c)) (all_departed d (after q c) calls) ((run (after q c) calls).at d))

pub own : Own
own = record { changes = λ calls c d. after_own (run new calls) (reached calls) c d }

pub in_order : InOrder
unfolding new
in_order = record { blocks = λ calls d. run_own calls new new_sound d }
