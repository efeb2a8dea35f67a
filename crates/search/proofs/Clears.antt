-- 64 tones are accepted precisely where every character is clear by their symbols and weights; and no start is without a mode or a set lead.
use mathlib.Core.Path.{◌≡◌, sym, ◌∙◌, ap, ap₂}
use mathlib.Core.Bool.{true, false}
use mathlib.Core.List.{List}
use Prim.Native.Nat.{ℕ, ◌+◌, ◌%◌, ◌<◌, ◌≤◌, ◌^◌}
use native.Mathlib.Decide.{dec_lt}
use native.Mathlib.Omega.{arith}
use borrow.Author.Tests.{lt-ltb, le-ltb, lt-leb, le-leb}
use lib.Dec.{ltb, leb, lit≤}
use lib.ListN.{length, replicate}
use lib.Pow.{pow_mono}
use Rattle.lists.specs.Lists.{tab, num, over}
use Rattle.lists.specs.Places.{first}
use Rattle.lists.specs.Found.{found}
use Rattle.lists.proofs.Found.{found_past}
use Rattle.lists.proofs.Fronts.{over_tab_whole}
use Rattle.lists.proofs.Places.{first_ext, first_none}
use Rattle.refusal.specs.Checks.{is_mode, is_lead, IsSet}
use Rattle.refusal.proofs.Limits.{mode_range}
use Rattle.refusal.specs.declared.Reason.{Reason}
use Rattle.decision.specs.declared.Character.{Character}
use Rattle.chain.specs.Tables.{symbol_of, place_value}
use Rattle.block_decoder.specs.Decoding.{plain, characters_of, lead_in, first_unclear, unless_unclear, refused, decode_block}
use Rattle.block_decoder.specs.declared.BlockDecoded.{BlockDecoded}
use Rattle.block_decoder.proofs.Answers.{decided}
use Rattle.block_decoder.proofs.Characters.{characters_length, character_at_lem}
use Rattle.block_decoder.proofs.DecodeCases.{refuses_mode, refuses_lead}
use Rattle.checked_block.specs.Checked.{tones_below, weight_below, decode_checked}
use Rattle.checked_block.specs.Internal.{symbols_to, weights_below}
use Rattle.checked_block.proofs.CheckedCounts.{same_character}
use Rattle.checked_block.proofs.CheckedTones.{below_in_range}
use Rattle.search.specs.Starts.{longest_run, stretch_at, starts, is_text, accepted_at, first_accepted}
use Rattle.search.specs.Internal.{clear_by}
use Rattle.search.proofs.Windows.{stretch_length, window_kept}
use Rattle.std.proofs.Common.{None, Ok}

-- ---- 64 tones

pub accepts : (m : ℕ) (characters : List Character) (n : ℕ) → is_text (unless_unclear m characters (Ok n)) ≡ leb (length characters) (first_unclear m characters)
unfolding unless_unclear
accepts m characters n = by (dec_lt (first_unclear m characters) (length characters))
  where
    by : Dec (first_unclear m characters < length characters) → is_text (unless_unclear m characters (Ok n)) ≡ leb (length characters) (first_unclear m characters)
    by (yes l) = rw (lt-ltb (first_unclear m characters) (length characters) l, lt-leb (length characters) (first_unclear m characters) l)
    by (no g) =
        let h : length characters ≤ first_unclear m characters = omega arith in
        rw (le-ltb (first_unclear m characters) (length characters) h, le-leb (length characters) (first_unclear m characters) h)

module _ (b m : ℕ) (s : IsSet b m) (values : List ℕ) (v : values ≡ tab (place_value b) 72) where
  clear_accepted : (tones : List ℕ) → length tones ≡ 64 → clear_by b m values (symbols_to tones 64) (weights_below (2 ^ b) tones) ≡ is_text (decode_checked b m tones b)
  unfolding clear_by first_unclear
  clear_accepted tones n =
      let few : 2 ^ b ≤ 256 = omega (arith, pow_mono {i = b} {j = 8} (mode_range b s.mode).1) in
      let below = tones_below (2 ^ b) tones in
      let same = same_character (2 ^ b) tones few n b s.mode values v in
      ap (leb b) (first_ext _ _ b (λ q h. ap (λ (c : Character). ltb c.lead m) (same q h ∙ sym (character_at_lem b below plain q h))))
      ∙ ap (λ (k : ℕ). leb k (first (λ q. ltb (lead_in (characters_of b below) q) m) k)) (sym (characters_length b below plain))
      ∙ sym (accepts m (characters_of b below) b)
      ∙ sym (ap (λ (d : BlockDecoded). is_text d.answer) (decided b m below b s (below_in_range (2 ^ b) tones n) (omega arith)))

  -- by the windows of the run's symbols and weights
  pub clear_there : (run kept-symbols kept-weights rest others symbols weights : List ℕ) (start : ℕ) → start + 64 ≤ length run
      → kept-symbols ≡ over (tab (λ t. symbol_of (num run t % 256)) (length run)) rest
      → kept-weights ≡ over (tab (λ t. weight_below (2 ^ b) (num run t)) (length run)) others
      → symbols ≡ tab (λ t. num kept-symbols (start + t)) 64 → weights ≡ tab (λ t. num kept-weights (start + t)) 64
      → clear_by b m values symbols weights ≡ accepted_at b m run start
  unfolding accepted_at symbols_to weights_below
  clear_there run kept-symbols kept-weights rest others symbols weights start inside p q e f =
      ap₂ (clear_by b m values)
      (e ∙ window_kept run start inside (λ n. symbol_of (n % 256)) kept-symbols rest p ∙ sym (over_tab_whole (λ t. symbol_of (num (stretch_at run start) t % 256)) 64 (replicate 64 0) (lit≤ tt)))
      (f ∙ window_kept run start inside (weight_below (2 ^ b)) kept-weights others q)
      ∙ clear_accepted (stretch_at run start) (stretch_length run start inside)

-- ---- the answer for any mode, set lead and run

module _ (b m : ℕ) (run : List ℕ) where
  pub too_short : length run < 64 → None ≡ found (starts run) (first_accepted b m run)
  too_short h = sym (found_past (starts run) _ (omega arith))

  pub too_long : longest_run < length run → None ≡ found (starts run) (first_accepted b m run)
  unfolding first_accepted
  too_long h = rw (lt-ltb longest_run (length run) h) (sym (found_past (starts run) (starts run) (omega arith)))

  module _ (h : length run ≤ longest_run) where
    pub searched : first (accepted_at b m run) (starts run) ≡ first_accepted b m run
    unfolding first_accepted
    searched = rw (le-ltb longest_run (length run) h)

    never : ((start : ℕ) → accepted_at b m run start ≡ false) → None ≡ found (starts run) (first_accepted b m run)
    never f = sym (found_past (starts run) _ (omega (arith, sym (first_none (accepted_at b m run) (starts run) (λ start l. f start)) ∙ searched)))

    refused_there : (start : ℕ) (reason : Reason) → decode_block b m (tones_below (2 ^ b) (stretch_at run start)) b ≡ refused reason 0 → accepted_at b m run start ≡ false
    unfolding accepted_at refused
    refused_there start reason e = ap (λ (d : BlockDecoded). is_text d.answer) e

    pub no_mode : is_mode b ≡ false → None ≡ found (starts run) (first_accepted b m run)
    no_mode e = never (λ start. refused_there start Reason.Mode (refuses_mode 1 b m _ plain b e))

    pub no_lead : is_mode b ≡ true → is_lead m ≡ false → None ≡ found (starts run) (first_accepted b m run)
    no_lead e f = never (λ start. refused_there start Reason.LeastLead (refuses_lead 1 b m _ plain b e f))
