-- A depot with a waiting block is served within 30 sends: each send that is not refused and serves another brings it nearer to the turn.
use mathlib.Core.List.{List, [], ◌∷◌}
use mathlib.Core.Path.{◌≡◌, sym, ◌∙◌, ap}
use Prim.Native.Nat.{ℕ, ◌+◌, ◌<◌, ◌≤◌, ◌%◌}
use native.Mathlib.Decide.{ℕ_discrete, dec_lt}
use native.Mathlib.Omega.{arith}
use borrow.Author.Tests.{eq-eqb}
use Rattle.sender.specs.Queues.{Block, Queues, new, waiting, joined, ahead, next_depot, served}
use Rattle.sender.specs.Runs.{Call, Answer, answer, after, run}
use Rattle.sender.proofs.Rounds.{distance, distance_small, distance_reaches, distance_falls}
use Rattle.sender.proofs.Steps.{joined_other, joined_count, served_other}
use Rattle.sender.proofs.Cases.{ahead_least}
use Rattle.sender.proofs.Calls.{CallCase, call_case}
use Rattle.sender.proofs.Reached.{Sound, after_sound, reached}
use Rattle.sender_laws.specs.Counting.{answers, counted, serves, unrefused}
use Rattle.sender_laws.specs.Laws.{Fair}

-- the depot has a block still, and is nearer to the turn by each send that was not refused
record Nearer (d : ℕ) (q q' : Queues) (a : Answer) : Type 0 where
  waits : 0 < waiting q' d
  nearer : distance q'.turn d + unrefused a ≤ distance q.turn d

module _ (d : ℕ) (l : d < 30) (q : Queues) (s : Sound q) (h : 0 < waiting q d) where
  joined_waits : (depot : ℕ) (b : Block) → Dec (d ≡ depot) → 0 < waiting (joined q depot b) d
  joined_waits depot b (yes e) = rw (e, joined_count q depot b) (omega arith)
  joined_waits depot b (no ne) = rw (joined_other q depot b d ne) h

  module _ (ne : d ≡ next_depot q → ⊥) where
    served_waits : 0 < waiting (served q (next_depot q)) d
    served_waits = rw (served_other q (next_depot q) d ne) h

    ahead_nearer : ahead q.turn (waiting q) < distance q.turn d
    ahead_nearer = by (ℕ_discrete (ahead q.turn (waiting q)) (distance q.turn d))
      where
        by : Dec (ahead q.turn (waiting q) ≡ distance q.turn d) → ahead q.turn (waiting q) < distance q.turn d
        by (yes e) = absurd (ne (unfold next_depot in sym (ap (λ (k : ℕ). (q.turn + k) % 30) e ∙ distance_reaches q.turn d s.turn l)))
        by (no k) = omega (arith, ahead_least q.turn (waiting q) d s.turn l h)

    served_nearer : distance (served q (next_depot q)).turn d + 1 ≤ distance q.turn d
    unfolding served next_depot
    served_nearer = omega (arith, distance_falls q.turn d s.turn l (ahead q.turn (waiting q)) ahead_nearer)

  unserved_nearer : (c : Call) (a : Answer) (q' : Queues) → CallCase q c a q' → serves d a ≡ 0 → Nearer d q q' a
  unfolding serves unrefused
  unserved_nearer c a q' (CallCase.not_taken depot b r) z = record { waits = h; nearer = omega arith }
  unserved_nearer c a q' (CallCase.takes depot b t) z = record {
    waits = joined_waits depot b (ℕ_discrete d depot);
    nearer = unfold joined in omega arith;
  }
  unserved_nearer c a q' (CallCase.not_sent tones r) z = record { waits = h; nearer = omega arith }
  unserved_nearer c a q' (CallCase.none tones w) z = absurd (omega (arith, w d l))
  unserved_nearer c a q' (CallCase.serves tones n w) z = record { waits = served_waits other; nearer = served_nearer other }
    where
      other : d ≡ next_depot q → ⊥
      other e = let y : ◌≡◌ {A = ℕ} 1 0 = rw (eq-eqb d (next_depot q) e) at z in omega arith

-- while the depot is not served, no more sends are made than its distance from the turn
unserved_few : (d : ℕ) → d < 30 → (calls : List Call) (q : Queues) → Sound q → 0 < waiting q d
    → counted (serves d) (answers q calls) ≡ 0 → counted unrefused (answers q calls) ≤ distance q.turn d
unfolding counted answers
unserved_few d l [] q s h z = omega arith
unserved_few d l (c ∷ calls) q s h z =
    let one = unserved_nearer d l q s h c (answer q c) (after q c) (call_case q s.turn c) (omega arith) in
    omega (arith, one.nearer, unserved_few d l calls (after q c) (after_sound q s c) one.waits (omega arith))

served_within : (d : ℕ) → d < 30 → (calls : List Call) (q : Queues) → Sound q → 0 < waiting q d
    → distance q.turn d < counted unrefused (answers q calls) → 1 ≤ counted (serves d) (answers q calls)
served_within d l calls q s h n = by (dec_lt 0 (counted (serves d) (answers q calls)))
  where
    by : Dec (0 < counted (serves d) (answers q calls)) → 1 ≤ counted (serves d) (answers q calls)
    by (yes k) = omega arith
    by (no k) = absurd (omega (arith, unserved_few d l calls q s h (omega arith)))

pub fair : Fair
fair = record {
  within = λ calls more d l h n.
      served_within d l more (run new calls) (reached calls) h (omega (arith, distance_small (run new calls).turn d (reached calls).turn l));
}
