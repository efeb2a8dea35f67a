-- Symbols by eight bits, with no weight for what is none of the mode's: a turn of the loop that puts them down, and that the decisions by them
-- are those on the tones below the limit.
use mathlib.Core.Path.{◌≡◌, refl, sym, ◌∙◌, ap, ap₂}
use mathlib.Core.Bool.{Bool, true, false, cond}
use mathlib.Core.List.{List}
use Prim.Native.Nat.{ℕ, ◌+◌, ◌%◌, ◌<◌, ◌≤◌}
use native.Mathlib.Omega.{arith}
use borrow.Author.Tests.{ltb-true, ne_eqb}
use lib.Dec.{ltb}
use lib.IntN.{pos}
use lib.ListN.{length, set, replicate, length-replicate}
use Rattle.lists.specs.Lists.{tab, num, over}
use Rattle.lists.proofs.Fronts.{over_start, over_set, over_length, over_tab_at}
use Rattle.lists.proofs.Tables.{tab_length, tab_at, tab_ext}
use Rattle.refusal.specs.Checks.{is_mode}
use Rattle.refusal.proofs.Limits.{mode_range}
use Rattle.walsh.specs.Words.{signed, turned}
use Rattle.walsh.proofs.Signed.{signed_zero}
use Rattle.decision.specs.Decision.{none}
use Rattle.decision.specs.declared.Character.{Character}
use Rattle.decision.proofs.Choice.{counts_decide}
use Rattle.chain.specs.Chain.{bit, key_bit, missing_mark}
use Rattle.chain.specs.Tables.{symbol_of, place_value}
use Rattle.chain.proofs.GrayCodes.{symbol_marked}
use Rattle.characters.specs.Symbols.{symbol_count, symbol_character, symbol_characters}
use Rattle.characters.proofs.Reached.{all_decided}
use Rattle.characters.proofs.TableSigns.{place_count}
use Rattle.weight_range.proofs.Ranges.{weight_throughout}
use Rattle.block_decoder.specs.Decoding.{plain, heard_symbol, symbols_of, count_of, count_in, weighted_at, weighted_of, character_at, characters_of, padded}
use Rattle.block_decoder.proofs.Counts.{heard_present, heard_missing, symbol_heard, count_missing, count_present}
use Rattle.checked_block.specs.Checked.{tone_below, tones_below, weight_below}
use Rattle.checked_block.specs.Internal.{symbols_to, weights_below}
use Rattle.checked_block.proofs.CheckedTones.{below_at}

-- ---- a turn

zeros : length {A = ℕ} (replicate 64 0) ≡ 64
zeros = length-replicate {A = ℕ} 64 0

module _ (tones : List ℕ) where
  pub symbols_none : replicate 64 0 ≡ symbols_to tones 0
  unfolding symbols_to
  symbols_none = over_start _ _

  pub symbols_length : (n : ℕ) → n ≤ 64 → length (symbols_to tones n) ≡ 64
  unfolding symbols_to
  symbols_length n h =
      over_length (tab (λ t. symbol_of (num tones t % 256)) n) (replicate 64 0) (omega (arith, tab_length (λ t. symbol_of (num tones t % 256)) n, zeros))
      ∙ zeros

  -- the symbol of a tone, read off the table
  pub put_symbol : (t : ℕ) (symbols table : List ℕ) → t < 64 → symbols ≡ symbols_to tones t → table ≡ tab symbol_of 256
      → set symbols t (num table (num tones t % 256)) ≡ symbols_to tones (t + 1)
  unfolding symbols_to
  put_symbol t symbols table h p e =
      over_set 0 (λ k. symbol_of (num tones k % 256)) t (replicate 64 0) symbols _ (omega (arith, zeros)) p
      (rw e (tab_at symbol_of 0 256 (num tones t % 256) (omega arith)))

-- ---- one tone

count_of_lem : (k : Bool) (place limit tone : ℕ) → limit ≤ 256
    → signed (turned k (bit (symbol_of (tone % 256)) place)) (pos (weight_below limit tone % 16)) ≡ count_of k place 1 (heard_symbol (tone_below limit tone))
unfolding weight_below tone_below
count_of_lem k place limit tone h = by (ltb tone limit) refl
  where
    by : (s : Bool) → ltb tone limit ≡ s
        → signed (turned k (bit (symbol_of (tone % 256)) place)) (pos (cond s 1 0 % 16)) ≡ count_of k place 1 (heard_symbol (cond s tone missing_mark))
    by true e =
        let l : tone < 256 = omega (arith, ltb-true tone limit e) in
        let low : tone % 256 ≡ tone = omega arith in
        rw (low, heard_present tone (ne_eqb tone missing_mark (λ z. omega arith))) (sym (count_present k place 1 (symbol_of tone) (symbol_marked tone)))
    by false e =
        signed_zero (turned k (bit (symbol_of (tone % 256)) place))
        ∙ sym (ap (count_of k place 1) (heard_missing missing_mark refl) ∙ count_missing k place 1)

-- ---- a block

module _ (limit : ℕ) (tones : List ℕ) where
  symbol_at_lem : (t : ℕ) → t < 64 → num (symbols_to tones 64) t ≡ symbol_of (num tones t % 256)
  unfolding symbols_to
  symbol_at_lem t h = over_tab_at (λ k. symbol_of (num tones k % 256)) 0 64 (replicate 64 0) t h

  weight_at : (t : ℕ) → t < 64 → num (weights_below limit tones) t ≡ weight_below limit (num tones t)
  unfolding weights_below
  weight_at t h = tab_at (λ k. weight_below limit (num tones k)) 0 64 t h

  module _ (small : limit ≤ 256) (n : length tones ≡ 64) (b : ℕ) (e : is_mode b ≡ true) (values : List ℕ) (v : values ≡ tab (place_value b) 72) where
    same_count : (q t : ℕ) → q < b → t < 64 → symbol_count values (symbols_to tones 64) (weights_below limit tones) q t ≡ count_in b (symbols_of (tones_below limit tones)) plain q t
    unfolding count_in
    same_count q t h l =
        place_count b values (symbols_to tones 64) (weights_below limit tones) q t v (omega (arith, mode_range b e)) l
        ∙ ap₂ (λ (w s : ℕ). signed (turned (key_bit q t) (bit s ((q + t) % b))) (pos (w % 16))) (weight_at t l) (symbol_at_lem t l)
        ∙ count_of_lem (key_bit q t) ((q + t) % b) limit (num tones t) small
        ∙ sym (ap₂ (count_of (key_bit q t) ((q + t) % b)) (weight_throughout 1 t l) (symbol_heard (tones_below limit tones) t l ∙ ap heard_symbol (below_at limit tones t (omega arith))))

    pub same_character : (q : ℕ) → q < b → symbol_character values (symbols_to tones 64) (weights_below limit tones) q ≡ character_at b (tones_below limit tones) q
    unfolding symbol_character weighted_at
    same_character q h = counts_decide _ _ (λ t l. same_count q t h l)

    same_characters : symbol_characters b 0 values (symbols_to tones 64) (weights_below limit tones) ≡ characters_of b (tones_below limit tones)
    unfolding weighted_of
    same_characters = all_decided b values (symbols_to tones 64) (weights_below limit tones) e ∙ tab_ext none _ _ b same_character

    pub same_found : (symbols weights : List ℕ) (found : List Character) → symbols ≡ symbols_to tones 64 → weights ≡ weights_below limit tones
        → found ≡ over (symbol_characters b 0 values symbols weights) (replicate 8 none) → found ≡ padded (characters_of b (tones_below limit tones))
    unfolding padded
    same_found symbols weights found p q f = f ∙ ap (λ (x : List Character). over x (replicate 8 none)) (rw (p, q) same_characters)
