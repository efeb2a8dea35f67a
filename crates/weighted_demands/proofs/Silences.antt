-- A missing tone counts nothing whatever its weight, a tone of weight 0 counts nothing whatever it is, and the decision rests on counts alone.
use mathlib.Core.Path.{◌≡◌, refl, sym, ◌∙◌, ap, ap₂}
use mathlib.Core.Bool.{Bool, true, false, cond}
use mathlib.Core.List.{List}
use mathlib.Core.Logic.{inl, inr}
use Prim.Native.Nat.{ℕ, ◌+◌, ◌<◌, ◌%◌}
use borrow.Author.Tests.{eq-eqb}
use lib.Dec.{eqb}
use lib.IntN.{pos}
use Rattle.lists.specs.Lists.{num}
use Rattle.walsh.specs.Words.{signed, turned}
use Rattle.walsh.proofs.Signed.{signed_zero}
use Rattle.decision.proofs.Choice.{counts_decide}
use Rattle.chain.specs.Chain.{missing_mark, bit, key_bit}
use Rattle.block_decoder.specs.Decoding.{heard_symbol, symbols_of, count_of, count_in, weighted_at}
use Rattle.block_decoder.proofs.Counts.{heard_missing, symbol_heard, count_missing}
use Rattle.weighted_demands.specs.Laws.{IsSilent, AreAlike, Silence}

module _ (key : Bool) (place : ℕ) where
  missing_counts_nothing : (weight tone : ℕ) → tone ≡ missing_mark → count_of key place weight (heard_symbol tone) ≡ pos 0
  missing_counts_nothing weight tone e =
      ap (count_of key place weight) (heard_missing tone (eq-eqb tone missing_mark e)) ∙ count_missing key place weight

  weightless_counts_nothing : (weight symbol : ℕ) → weight ≡ 0 → count_of key place weight symbol ≡ pos 0
  unfolding count_of
  weightless_counts_nothing weight symbol e = rw e (by (eqb symbol missing_mark))
    where
      by : (u : Bool) → cond u (pos 0) (signed (turned key (bit symbol place)) (pos 0)) ≡ pos 0
      by true = refl
      by false = signed_zero (turned key (bit symbol place))

silent_counts_nothing : (b : ℕ) (tones weights : List ℕ) (q t : ℕ) → t < 64 → IsSilent tones weights t → count_in b (symbols_of tones) weights q t ≡ pos 0
unfolding count_in
silent_counts_nothing b tones weights q t l (inl e) =
    ap (count_of (key_bit q t) ((q + t) % b) (num weights t)) (symbol_heard tones t l)
    ∙ missing_counts_nothing (key_bit q t) ((q + t) % b) (num weights t) (num tones t) e
silent_counts_nothing b tones weights q t l (inr e) = weightless_counts_nothing (key_bit q t) ((q + t) % b) (num weights t) (num (symbols_of tones) t) e

alike_count_alike : (b : ℕ) (tones weights tones' weights' : List ℕ) (q t : ℕ) → t < 64 → AreAlike tones weights tones' weights' t
    → count_in b (symbols_of tones) weights q t ≡ count_in b (symbols_of tones') weights' q t
unfolding count_in
alike_count_alike b tones weights tones' weights' q t l (inl (s, s')) =
    silent_counts_nothing b tones weights q t l s ∙ sym (silent_counts_nothing b tones' weights' q t l s')
alike_count_alike b tones weights tones' weights' q t l (inr (e, f)) =
    ap₂ (count_of (key_bit q t) ((q + t) % b)) f (symbol_heard tones t l ∙ ap heard_symbol e ∙ sym (symbol_heard tones' t l))

alike_decided_alike : (b : ℕ) (tones weights tones' weights' : List ℕ) → ((t : ℕ) → t < 64 → AreAlike tones weights tones' weights' t)
    → (q : ℕ) → weighted_at b tones weights q ≡ weighted_at b tones' weights' q
unfolding weighted_at
alike_decided_alike b tones weights tones' weights' h q =
    counts_decide
    (count_in b (symbols_of tones) weights q)
    (count_in b (symbols_of tones') weights' q)
    (λ t l. alike_count_alike b tones weights tones' weights' q t l (h t l))

pub silence_law : Silence
silence_law = record { counts = silent_counts_nothing; decided = alike_decided_alike }
