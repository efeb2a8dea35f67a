-- The round of thirty depots: how far a depot is from the turn, and that it comes nearer as others are served.
use mathlib.Core.Path.{◌≡◌, ◌∙◌, ap}
use Prim.Native.Nat.{ℕ, ◌+◌, ◌-◌, ◌<◌, ◌%◌}
use native.Mathlib.Omega.{arith}

-- how many depots are looked at before d, from the turn on
unfoldable pub distance : ℕ → ℕ → ℕ
distance turn d = (d + 30 - turn) % 30

pub round_small : (n : ℕ) → n % 30 < 30
round_small n = omega arith

round_after : (n j : ℕ) → (n % 30 + j) % 30 ≡ (n + j) % 30
round_after n j = omega arith

-- the distance is the only number below 30 of steps that leads to the depot
distance_only : (turn k d : ℕ) → turn < 30 → k < 30 → (turn + k) % 30 ≡ d → distance turn d ≡ k
unfolding distance
distance_only turn k d t h e = omega arith

module _ (turn d : ℕ) (t : turn < 30) (l : d < 30) where
  pub distance_small : distance turn d < 30
  unfolding distance
  distance_small = omega arith

  pub distance_reaches : (turn + distance turn d) % 30 ≡ d
  unfolding distance
  distance_reaches = omega arith

  -- a depot nearer to the turn was served
  pub distance_falls : (k : ℕ) → k < distance turn d → distance (((turn + k) % 30 + 1) % 30) d + k + 1 ≡ distance turn d
  distance_falls k h = omega (arith, left)
    where
      steps : turn + k + 1 + (distance turn d - (k + 1)) ≡ turn + distance turn d
      steps = omega arith

      left : distance (((turn + k) % 30 + 1) % 30) d ≡ distance turn d - (k + 1)
      left =
          distance_only (((turn + k) % 30 + 1) % 30) (distance turn d - (k + 1)) d (round_small ((turn + k) % 30 + 1)) (omega (arith, distance_small))
          (ap (λ (x : ℕ). (x + (distance turn d - (k + 1))) % 30) (round_after (turn + k) 1)
          ∙ round_after (turn + k + 1) (distance turn d - (k + 1))
          ∙ ap (λ (x : ℕ). x % 30) steps
          ∙ distance_reaches)
