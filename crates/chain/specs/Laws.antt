-- The laws of the chain. Each is the promise of the function of the same name in src/laws.rt.
use Rattle.std.specs.Prelude.{◌≡◌, List, ℕ, ◌+◌, ◌<◌, ◌%◌, ◌^◌}
use Rattle.lists.specs.Lists.{num}
use Rattle.chain.specs.Chain.{bit, sent_bit, symbol_at, gray}
use Rattle.chain.specs.Tables.{symbol_of}

-- The table of symbols and the Gray code undo each other.
pub record GrayCode : Type 0 where
  pub tone_of_symbol : (g : ℕ) → g < 256 → gray (symbol_of g) ≡ g
  pub symbol_of_tone : (s : ℕ) → s < 256 → symbol_of (gray s) ≡ s

-- The bit of character q at t is bit (q + t) mod b of symbol t, and a symbol has b bits.
pub record Interleaver : Type 0 where
  pub bits : (b : ℕ) (codes : List ℕ) (t q : ℕ) → q < b → bit (symbol_at b codes t) ((q + t) % b) ≡ sent_bit q (num codes q) t
  pub below : (b : ℕ) (codes : List ℕ) (t : ℕ) → symbol_at b codes t < 2 ^ b
