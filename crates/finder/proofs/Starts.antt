-- The starts of a run whose tones are in range: the search finds the first at which decoding accepts.
use mathlib.Core.Path.{◌≡◌, sym, ◌∙◌, ap}
use mathlib.Core.List.{List}
use Prim.Native.Nat.{ℕ, ◌+◌, ◌-◌, ◌≤◌, ◌^◌}
use native.Mathlib.Omega.{arith}
use lib.ListN.{length, take, drop}
use Rattle.lists.specs.Lists.{num}
use Rattle.lists.specs.Found.{found}
use Rattle.lists.proofs.Places.{first_ext}
use Rattle.refusal.specs.Checks.{IsSet}
use Rattle.tone_range.specs.Range.{HasTones, first_bad_tone}
use Rattle.tone_range.proofs.Ranges.{tones_good, tone_good}
use Rattle.block_decoder.specs.declared.BlockDecoded.{BlockDecoded}
use Rattle.block_decoder.proofs.Answers.{decided}
use Rattle.checked_block.proofs.CheckedTones.{in_range}
use Rattle.search.specs.Starts.{longest_run, stretch_at, starts, is_text, accepted_at, first_accepted}
use Rattle.search.proofs.Windows.{stretch_tone, stretch_length}
use Rattle.search.proofs.Clears.{searched}
use Rattle.finder.specs.Finding.{decodes_at, first_start}

-- a part's length arrives as an end less a start
pub stretch_part : (run : List ℕ) (start : ℕ) → take (start + 64 - start) (drop start run) ≡ stretch_at run start
unfolding stretch_at
stretch_part run start = let e : start + 64 - start ≡ 64 = omega arith in rw e

module _ (b m : ℕ) (run : List ℕ) (good : length run ≤ first_bad_tone (2 ^ b) run) where
  pub stretch_tones : (start : ℕ) → start + 64 ≤ length run → HasTones (2 ^ b) (stretch_at run start)
  stretch_tones start inside = record {
    count = stretch_length run start inside;
    each = λ t l. rw (stretch_tone run start t l) (tone_good (2 ^ b) (num run (start + t)) (tones_good (2 ^ b) run good (start + t) (omega arith)));
  }

  module _ (room : ℕ) (s : IsSet b m) (fits : b ≤ room) where
    same_answer : (start : ℕ) → start + 64 ≤ length run → accepted_at b m run start ≡ decodes_at b m run room start
    unfolding accepted_at decodes_at
    same_answer start inside =
        let w = stretch_tones start inside in
        ap is_text
        (in_range.answer b m (stretch_at run start) b w
        ∙ ap (λ (d : BlockDecoded). d.answer) (decided b m (stretch_at run start) b s w (omega arith) ∙ sym (decided b m (stretch_at run start) room s w fits)))

    pub search_finds : length run ≤ longest_run → first_accepted b m run ≡ first_start b m run room
    unfolding first_start
    search_finds short = sym (searched b m run short) ∙ first_ext _ _ (starts run) (λ start l. same_answer start (omega arith))

    -- the same of what is handed to the search, where that is the run
    pub finds_first_start : length run ≤ longest_run → (heard : List ℕ) → heard ≡ run → found (starts heard) (first_accepted b m heard) ≡ found (starts run) (first_start b m run room)
    finds_first_start short heard whole = rw whole (ap (found (starts run)) (search_finds short))
