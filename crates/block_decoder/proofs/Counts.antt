-- What one symbol counts: nothing if its tone is missing, else its weight with a sign.
use mathlib.Core.Path.{◌≡◌, refl}
use mathlib.Core.Bool.{Bool, true, false, cond}
use mathlib.Core.List.{List}
use Prim.Native.Nat.{ℕ, ◌+◌, ◌<◌, ◌≤◌, ◌%◌}
use native.Mathlib.Omega.{arith}
use lib.Dec.{eqb}
use lib.IntN.{pos, nat_abs}
use Rattle.lists.specs.Lists.{num}
use Rattle.lists.proofs.Tables.{tab_at}
use Rattle.walsh.specs.Words.{signed, turned}
use Rattle.walsh.proofs.Signed.{abs_signed}
use Rattle.chain.specs.Chain.{missing_mark, bit, key_bit}
use Rattle.chain.specs.Tables.{symbol_of}
use Rattle.block_decoder.specs.Decoding.{heard_symbol, symbols_of, count_of, count_in}

-- ---- symbols

module _ (tone : ℕ) where
  pub heard_present : eqb tone missing_mark ≡ false → heard_symbol tone ≡ symbol_of tone
  unfolding heard_symbol
  heard_present e = rw e

  pub heard_missing : eqb tone missing_mark ≡ true → heard_symbol tone ≡ missing_mark
  unfolding heard_symbol
  heard_missing e = rw e

pub symbol_heard : (tones : List ℕ) (t : ℕ) → t < 64 → num (symbols_of tones) t ≡ heard_symbol (num tones t)
unfolding symbols_of
symbol_heard tones t h = tab_at (λ k. heard_symbol (num tones k)) 0 64 t h

-- ---- counts

module _ (k : Bool) (place weight : ℕ) where
  pub count_missing : count_of k place weight missing_mark ≡ pos 0
  unfolding count_of
  count_missing = refl

  pub count_present : (symbol : ℕ) → eqb symbol missing_mark ≡ false → count_of k place weight symbol ≡ signed (turned k (bit symbol place)) (pos weight)
  unfolding count_of
  count_present symbol e = rw e

  pub count_small : (symbol : ℕ) → nat_abs (count_of k place weight symbol) ≤ weight
  unfolding count_of
  count_small symbol = by (eqb symbol missing_mark)
    where
      by : (s : Bool) → nat_abs (cond s (pos 0) (signed (turned k (bit symbol place)) (pos weight))) ≤ weight
      by true = omega arith
      by false = omega (arith, abs_signed (turned k (bit symbol place)) (pos weight))

pub count_within : (b : ℕ) (symbols weights : List ℕ) (q t : ℕ) → nat_abs (count_in b symbols weights q t) ≤ num weights t
unfolding count_in
count_within b symbols weights q t = count_small (key_bit q t) ((q + t) % b) (num weights t) (num symbols t)
