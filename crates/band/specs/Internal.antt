-- What the functions of this crate's own promise, of any two numbers that a band may hold.
use Rattle.std.specs.Prelude.{◌≡◌, Bool, true, false, ◌&&◌, ℕ, suc, ◌<◌, Float}
use Rattle.std.specs.Float.{binary64}
use Rattle.std.specs.Float.Ieee.{add, mul, le, lt}
use Rattle.scaled.specs.Exact.{whole}
use Rattle.band.specs.declared.Band.{Band}

-- where tone n's stretch begins, in f64: edge + spacing × n, each step rounded
unfoldable pub tone_edge_in : Band → ℕ → Float
tone_edge_in band n = add binary64 band.edge (mul binary64 band.spacing (whole n))

-- x reaches the lower edge, and not the one that n tones end at
unfoldable pub holds_in : Band → ℕ → Float → Bool
holds_in band n x = le band.edge x && lt x (tone_edge_in band n)

-- x reaches the edge of tone m, and not the one of tone n
pub record Between (band : Band) (x : Float) (m n : ℕ) : Type 0 where
  pub reached : le (tone_edge_in band m) x ≡ true
  pub short : le (tone_edge_in band n) x ≡ false

-- n is one of so many tones, and its stretch holds x; whether another's does too is left open, as the edges need not rise
pub record OwnerIn (band : Band) (count : ℕ) (x : Float) (n : ℕ) : Type 0 where
  pub few : n < count
  pub holds : Between band x n (suc n)
