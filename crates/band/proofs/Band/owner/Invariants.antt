-- The invariant: the measurement reaches the edge of `tone`, and not the one `count` tones further on.
use mathlib.Core.Path.{◌≡◌}
use Prim.Native.Nat.{ℕ, ◌+◌, ◌-◌, ◌^◌, ◌≤◌}
use lib.Ieee.{Float}
use Rattle.band.specs.Internal.{Between}
use Rattle.band.specs.declared.Band.{Band}
use Rattle.band.proofs.Band.owner.Given as goal

pub record Among (band : Band) (x : Float) (b tone count : ℕ) : Type 0 where
  pub few : tone + count ≤ 2 ^ b
  pub edges : Between band x tone (tone + count)

abbrev pub invariant-loop : goal.invariant-loop
invariant-loop l = (l.count ≡ 2 ^ (l.mode - l.counter)) × Among l.self l.hertz l.mode l.tone l.count
