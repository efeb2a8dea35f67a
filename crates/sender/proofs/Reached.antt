-- What holds of the queues after any run of calls from a new sender.
use mathlib.Core.Path.{◌≡◌, refl}
use mathlib.Core.List.{List, [], ◌∷◌}
use Prim.Native.Nat.{ℕ, ◌+◌, ◌<◌, ◌≤◌, max}
use native.Mathlib.Decide.{ℕ_discrete}
use native.Mathlib.Omega.{arith}
use Rattle.lists.specs.Sums.{total}
use Rattle.lists.proofs.Sums.{total_mono}
use Rattle.sender.specs.Queues.{Block, Queues, new, waiting, reserved, joined, next_depot, served}
use Rattle.sender.specs.Runs.{Call, Answer, answer, after, run}
use Rattle.sender.proofs.Rounds.{round_small}
use Rattle.sender.proofs.Steps.{joined_other, joined_count, joined_reserved, served_other, served_count, served_reserved}
use Rattle.sender.proofs.Cases.{Takes}
use Rattle.sender.proofs.Calls.{CallCase, call_case}

pub record Sound (q : Queues) : Type 0 where
  pub turn : q.turn < 30
  pub few : (d : ℕ) → waiting q d ≤ 8
  pub sum : reserved (waiting q) ≤ 150

new_reserved : reserved (waiting new) ≡ 120
unfolding new reserved total
new_reserved = refl

pub new_sound : Sound new
unfolding new
new_sound = record { turn = omega arith; few = λ d. omega arith; sum = omega (arith, new_reserved) }

module _ (q : Queues) (s : Sound q) where
  joined_sound : (depot : ℕ) (b : Block) → Takes (waiting q) depot b → Sound (joined q depot b)
  joined_sound depot b t = record { turn = turn; few = λ d. few d (ℕ_discrete d depot); sum = rw (joined_reserved q depot b) t.sum }
    where
      turn : (joined q depot b).turn < 30
      turn = unfold joined in s.turn

      few : (d : ℕ) → Dec (d ≡ depot) → waiting (joined q depot b) d ≤ 8
      few d (yes e) = rw (e, joined_count q depot b) (omega (arith, t.own))
      few d (no ne) = rw (joined_other q depot b d ne) (s.few d)

  served_sound : (depot : ℕ) → depot < 30 → Sound (served q depot)
  served_sound depot l = record { turn = turn; few = λ d. few d (ℕ_discrete d depot); sum = omega (arith, served_reserved q depot l, s.sum) }
    where
      turn : (served q depot).turn < 30
      turn = unfold served in round_small (depot + 1)

      few : (d : ℕ) → Dec (d ≡ depot) → waiting (served q depot) d ≤ 8
      few d (yes e) = rw (e, served_count q depot) (omega (arith, s.few depot))
      few d (no ne) = rw (served_other q depot d ne) (s.few d)

  call_sound : (c : Call) (a : Answer) (q' : Queues) → CallCase q c a q' → Sound q'
  call_sound c a q' (CallCase.not_taken depot b r) = s
  call_sound c a q' (CallCase.takes depot b t) = joined_sound depot b t
  call_sound c a q' (CallCase.not_sent tones r) = s
  call_sound c a q' (CallCase.none tones z) = s
  call_sound c a q' (CallCase.serves tones n w) = served_sound (next_depot q) n

  pub after_sound : (c : Call) → Sound (after q c)
  after_sound c = call_sound c (answer q c) (after q c) (call_case q s.turn c)

  -- 150 places hold them all
  pub places_suffice : total 30 (waiting q) ≤ 150
  unfolding reserved
  places_suffice = omega (arith, total_mono 30 (waiting q) (λ d. max 4 (waiting q d)) (λ d l. omega arith), s.sum)

run_sound : (calls : List Call) (q : Queues) → Sound q → Sound (run q calls)
unfolding run
run_sound [] q s = s
run_sound (c ∷ calls) q s = run_sound calls (after q c) (after_sound q s c)

pub reached : (calls : List Call) → Sound (run new calls)
reached calls = run_sound calls new new_sound
