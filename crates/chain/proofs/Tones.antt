-- The tones of a text: their count, each of them, and that they are tones of the mode.
use mathlib.Core.List.{List}
use mathlib.Core.Path.{◌≡◌}
use Prim.Native.Nat.{ℕ, ◌<◌, ◌^◌}
use lib.ListN.{length}
use Rattle.lists.specs.Lists.{num}
use Rattle.lists.proofs.Tables.{tab_length, tab_at}
use Rattle.chain.specs.Chain.{symbol_at, tone_at, tones_of}
use Rattle.chain.proofs.GrayCodes.{gray_below}
use Rattle.chain.proofs.Interleaving.{interleaver}

module _ (b : ℕ) (text : List ℕ) where
  pub tones_length : length (tones_of b text) ≡ 64
  unfolding tones_of
  tones_length = tab_length (tone_at b text) 64

  pub tone_sent : (t : ℕ) → t < 64 → num (tones_of b text) t ≡ tone_at b text t
  unfolding tones_of
  tone_sent t h = tab_at (tone_at b text) 0 64 t h

  pub tone_below_lem : (t : ℕ) → tone_at b text t < 2 ^ b
  unfolding tone_at
  tone_below_lem t = gray_below b (symbol_at b text t) (interleaver.below b text t)
