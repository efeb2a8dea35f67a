-- The key bit of a character, out of the table of key bits.
use mathlib.Core.Path.{◌≡◌}
use Prim.Native.Nat.{ℕ, ◌<◌}
use Rattle.chain.specs.Chain.{bit, key_bit}
use Rattle.chain.specs.Tables.{keys_at}
use Rattle.chain.proofs.Binary.{number_bit}

pub keys_bit : (t q : ℕ) → q < 8 → bit (keys_at t) q ≡ key_bit q t
unfolding keys_at
keys_bit t q h = number_bit (λ k. key_bit k t) 8 q h
