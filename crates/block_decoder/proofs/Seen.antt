-- The symbols that are seen and the weights that count: a turn of the loop that puts symbols down, and that the decisions by them are those by
-- the tones and weights heard.
use mathlib.Core.Path.{◌≡◌, sym, ◌∙◌, ap, ap₂}
use mathlib.Core.Bool.{Bool, true, false, cond}
use mathlib.Core.List.{List}
use Prim.Native.Nat.{ℕ, ◌+◌, ◌%◌, ◌<◌, ◌≤◌}
use native.Mathlib.Omega.{arith}
use borrow.Author.Tests.{eq-eqb, ne_eqb}
use lib.Dec.{eqb}
use lib.IntN.{pos}
use lib.ListN.{length, set, replicate, length-replicate}
use Rattle.lists.specs.Lists.{tab, num, over}
use Rattle.lists.proofs.Fronts.{over_start, over_set, over_tab_whole}
use Rattle.lists.proofs.Tables.{tab_at, tab_ext}
use Rattle.refusal.specs.Checks.{is_mode}
use Rattle.refusal.proofs.Limits.{mode_range}
use Rattle.walsh.specs.Words.{signed, turned}
use Rattle.walsh.proofs.Signed.{signed_zero}
use Rattle.decision.specs.Decision.{none}
use Rattle.decision.specs.declared.Character.{Character}
use Rattle.decision.proofs.Choice.{counts_decide}
use Rattle.chain.specs.Chain.{bit, key_bit, missing_mark}
use Rattle.chain.specs.Tables.{symbol_of, place_value}
use Rattle.chain.proofs.GrayCodes.{symbol_marked}
use Rattle.characters.specs.Symbols.{symbol_count, symbol_character, symbol_characters}
use Rattle.characters.proofs.Reached.{all_decided}
use Rattle.characters.proofs.TableSigns.{place_count}
use Rattle.weight_range.specs.Range.{HasWeights}
use Rattle.block_decoder.specs.Decoding.{heard_weight, heard_weights, heard_symbol, symbols_of, count_of, count_in, weighted_at, weighted_of, padded}
use Rattle.block_decoder.specs.Internal.{seen_symbol, seen_to}
use Rattle.block_decoder.proofs.Counts.{symbol_heard, count_missing, count_present}

zeros : length {A = ℕ} (replicate 64 0) ≡ 64
zeros = length-replicate {A = ℕ} 64 0

-- ---- a turn

seen_tone : (tone : ℕ) → tone < 256 → seen_symbol tone ≡ symbol_of tone
unfolding seen_symbol
seen_tone tone h = rw (ne_eqb tone missing_mark (λ e. omega arith))

seen_missing : (tone : ℕ) → tone ≡ missing_mark → seen_symbol tone ≡ 0
unfolding seen_symbol
seen_missing tone e = rw (eq-eqb tone missing_mark e)

module _ (tones : List ℕ) where
  pub seen_none : replicate 64 0 ≡ seen_to tones 0
  unfolding seen_to
  seen_none = over_start _ _

  seen_more : (t : ℕ) (symbols : List ℕ) (v : ℕ) → t < 64 → symbols ≡ seen_to tones t → v ≡ seen_symbol (num tones t) → set symbols t v ≡ seen_to tones (t + 1)
  unfolding seen_to
  seen_more t symbols v h p q = over_set 0 (λ k. seen_symbol (num tones k)) t (replicate 64 0) symbols v (omega (arith, zeros)) p q

  -- the symbol of a tone, read off the table, and that of a missing one
  pub put_symbol : (t : ℕ) (symbols table : List ℕ) → t < 64 → symbols ≡ seen_to tones t → num tones t < 256 → table ≡ tab symbol_of 256
      → set symbols t (num table (num tones t)) ≡ seen_to tones (t + 1)
  put_symbol t symbols table h p l e = seen_more t symbols _ h p (rw e (tab_at symbol_of 0 256 (num tones t) l) ∙ sym (seen_tone (num tones t) l))

  pub put_none : (t : ℕ) (symbols : List ℕ) → t < 64 → symbols ≡ seen_to tones t → num tones t ≡ missing_mark → set symbols t 0 ≡ seen_to tones (t + 1)
  put_none t symbols h p e = seen_more t symbols 0 h p (sym (seen_missing (num tones t) e))

-- ---- the decisions

module _ (tones weights : List ℕ) where
  symbol_at_lem : (t : ℕ) → t < 64 → num (seen_to tones 64) t ≡ seen_symbol (num tones t)
  unfolding seen_to
  symbol_at_lem t l =
      ap (λ (x : List ℕ). num x t) (over_tab_whole (λ k. seen_symbol (num tones k)) 64 (replicate 64 0) (omega (arith, zeros)))
      ∙ tab_at (λ k. seen_symbol (num tones k)) 0 64 t l

  weight_at : (t : ℕ) → t < 64 → num (heard_weights tones weights) t ≡ heard_weight (num tones t) (num weights t)
  unfolding heard_weights
  weight_at t l = tab_at (λ k. heard_weight (num tones k) (num weights k)) 0 64 t l

  module _ (w : HasWeights 15 weights) where
    -- a missing tone counts 0 whatever its sign
    count_of_lem : (k : Bool) (place weight tone : ℕ) → weight ≤ 15
        → signed (turned k (bit (seen_symbol tone) place)) (pos (heard_weight tone weight % 16)) ≡ count_of k place weight (heard_symbol tone)
    unfolding heard_weight heard_symbol seen_symbol
    count_of_lem k place weight tone h = by (eqb tone missing_mark)
      where
        by : (s : Bool) → signed (turned k (bit (cond s 0 (symbol_of tone)) place)) (pos (cond s 0 weight % 16)) ≡ count_of k place weight (cond s missing_mark (symbol_of tone))
        by true = signed_zero (turned k (bit 0 place)) ∙ sym (count_missing k place weight)
        by false =
            let few : weight % 16 ≡ weight = omega arith in
            rw few (sym (count_present k place weight (symbol_of tone) (symbol_marked tone)))

    module _ (b : ℕ) (e : is_mode b ≡ true) (values : List ℕ) (v : values ≡ tab (place_value b) 72) where
      pub seen_count : (q t : ℕ) → q < b → t < 64 → symbol_count values (seen_to tones 64) (heard_weights tones weights) q t ≡ count_in b (symbols_of tones) weights q t
      unfolding count_in
      seen_count q t h l =
          place_count b values (seen_to tones 64) (heard_weights tones weights) q t v (omega (arith, mode_range b e)) l
          ∙ ap₂ (λ (n s : ℕ). signed (turned (key_bit q t) (bit s ((q + t) % b))) (pos (n % 16))) (weight_at t l) (symbol_at_lem t l)
          ∙ count_of_lem (key_bit q t) ((q + t) % b) (num weights t) (num tones t) (w.each t l)
          ∙ ap (count_of (key_bit q t) ((q + t) % b) (num weights t)) (sym (symbol_heard tones t l))

      seen_characters : symbol_characters b 0 values (seen_to tones 64) (heard_weights tones weights) ≡ weighted_of b tones weights
      unfolding symbol_character weighted_of weighted_at
      seen_characters = all_decided b values (seen_to tones 64) (heard_weights tones weights) e ∙ tab_ext none _ _ b (λ q h. counts_decide _ _ (λ t l. seen_count q t h l))

      pub seen_found : (symbols heard : List ℕ) (found : List Character) → symbols ≡ seen_to tones 64 → heard ≡ heard_weights tones weights
          → found ≡ over (symbol_characters b 0 values symbols heard) (replicate 8 none) → found ≡ padded (weighted_of b tones weights)
      unfolding padded
      seen_found symbols heard found p q f = f ∙ ap (λ (x : List Character). over x (replicate 8 none)) (rw (p, q) seen_characters)
