-- The start found is the first that is accepted, and every earlier one is unclear.
use mathlib.Core.Path.{◌≡◌, refl, sym, ◌∙◌, ap}
use mathlib.Core.Bool.{Bool, true, false, cond}
use mathlib.Core.List.{List}
use Prim.Native.Nat.{ℕ, ◌+◌, ◌<◌, ◌≤◌, ◌^◌}
use native.Mathlib.Decide.{dec_lt}
use native.Mathlib.Omega.{arith}
use borrow.Author.Tests.{leb-false, ltb-true, ltb-false}
use lib.Dec.{ltb}
use lib.ListN.{length}
use Rattle.lists.proofs.Places.{first_is}
use Rattle.refusal.specs.Refused.{Answered, refused_at}
use Rattle.tone_range.specs.Range.{first_bad_tone}
use Rattle.weight_range.proofs.Ranges.{has_throughout}
use Rattle.block_decoder.specs.Decoding.{plain, characters_of, decode_block}
use Rattle.block_decoder.specs.declared.BlockDecoded.{BlockDecoded}
use Rattle.block_decoder.proofs.Answers.{passed, decided}
use Rattle.block_decoder.proofs.Characters.{characters_length}
use Rattle.block_decoder.proofs.DecodeCases.{accepted}
use Rattle.search.specs.Starts.{stretch_at, starts, is_text}
use Rattle.search.proofs.Clears.{accepts}
use Rattle.finder.specs.Finding.{decodes_at, first_start, found_start, records_of, find_block, written_at, found_into}
use Rattle.finder.proofs.Starts.{stretch_tones}
use Rattle.finder.proofs.FindCases.{Passed, tells_start, Searched, start_searched, none_searched}
use Rattle.demands.proofs.Answers.{refuses}
use Rattle.finder_laws.specs.Laws.{UnclearAt, Earliest, FirstBlock, FoundBy}
use Rattle.std.proofs.Common.{Ok, Err}
use Rattle.refusal.specs.declared.Reason.{Reason}

-- a text is the mode's count of codes
is_text_lem : (b m : ℕ) (tones : List ℕ) (room : ℕ) → is_text (decode_block b m tones room).answer ≡ true → (decode_block b m tones room).answer ≡ Ok b
is_text_lem b m tones room e = by (decode_block b m tones room).answer refl e
  where
    by : (d : Answered ℕ) → (decode_block b m tones room).answer ≡ d → is_text d ≡ true → (decode_block b m tones room).answer ≡ Ok b
    by (Ok n) p e = p ∙ ap Ok (accepted 1 b m tones plain room n p).whole
    by (Err r) p e = let z : ◌≡◌ {A = ℕ} 0 1 = cc in absurd (omega arith)

-- the choice of an answer of the search
chosen : (p n start : ℕ) → cond (ltb p n) (Ok p) (Err (refused_at Reason.NotFound 0)) ≡ Ok start → (p < n) × (p ≡ start)
chosen p n start e = by (ltb p n) refl e
  where
    by : (t : Bool) → ltb p n ≡ t → cond t (Ok p) (Err (refused_at Reason.NotFound 0)) ≡ Ok start → (p < n) × (p ≡ start)
    by true l e = (ltb-true p n l, cc)
    by false l e = let z : ◌≡◌ {A = ℕ} 0 1 = cc in absurd (omega arith)

not_chosen : (p n : ℕ) → cond (ltb p n) (Ok p) (Err (refused_at Reason.NotFound 0)) ≡ Err (refused_at Reason.NotFound 0) → n ≤ p
not_chosen p n e = by (ltb p n) refl e
  where
    by : (t : Bool) → ltb p n ≡ t → cond t (Ok p) (Err (refused_at Reason.NotFound 0)) ≡ Err (refused_at Reason.NotFound 0) → n ≤ p
    by true l e = let z : ◌≡◌ {A = ℕ} 0 1 = cc in absurd (omega arith)
    by false l e = ltb-false p n l

module _ (b m : ℕ) (run codes : List ℕ) where
  module _ (z : Answered ℕ) (s : Searched b m run (length codes) z) where
    unclear_there : (start : ℕ) → start + 64 ≤ length run → decodes_at b m run (length codes) start ≡ false → UnclearAt b m run codes start
    unfolding decodes_at
    unclear_there start inside e =
        let tones = stretch_at run start in
        let w = stretch_tones b m run s.good start inside in
        let settings = s.passed.settings in
        let answer = ap (λ (d : BlockDecoded). is_text d.answer) (decided b m tones (length codes) settings w s.passed.fits) in
        let few = leb-false (length (characters_of b tones)) _ (sym (accepts m (characters_of b tones) b) ∙ sym answer ∙ e) in
        refuses 1 b m tones plain codes (passed b m tones (length codes) settings w.count s.passed.fits) w (has_throughout 1 1 (omega arith))
        (omega (arith, few, characters_length b tones plain))

    unclear_before : (start : ℕ) → start < starts run → start < first_start b m run (length codes) → UnclearAt b m run codes start
    unfolding first_start
    unclear_before start l h = unclear_there start (omega arith) ((first_is (decodes_at b m run (length codes)) (starts run)).lowest start h)

  found_start_lem : (start : ℕ) → found_start b m run (length codes) ≡ Ok start → Earliest b m run codes start
  unfolding first_start decodes_at find_block records_of found_into written_at
  found_start_lem start e =
      let s = start_searched b m run (length codes) start e in
      let first = chosen (first_start b m run (length codes)) (starts run) start s.by in
      let here = (first_is (decodes_at b m run (length codes)) (starts run)).holds first.0 in
      record {
        inside = omega (arith, first.0, first.1);
        accepted = is_text_lem b m (stretch_at run start) (length codes) (rw first.1 at here);
        records = rw e refl;
        output = rw e refl;
        earlier = λ k l. unclear_before _ s k (omega (arith, first.0, first.1)) (omega (arith, first.1));
      }

-- a start at which 64 tones are accepted is found, or an earlier one
module _ (b m : ℕ) (run codes : List ℕ) (p : Passed b m run (length codes)) (good : length run ≤ first_bad_tone (2 ^ b) run) where
  abbrev reached : ℕ
  reached = first_start b m run (length codes)

  no_later : (s : ℕ) → decodes_at b m run (length codes) s ≡ true → reached ≤ s
  unfolding first_start
  no_later s e = by (dec_lt s reached)
    where
      by : Dec (s < reached) → reached ≤ s
      by (yes l) =
          let z : ◌≡◌ {A = ℕ} 0 1 = let f = (first_is (decodes_at b m run (length codes)) (starts run)).lowest s l in cc in
          absurd (omega arith)
      by (no g) = omega arith

  pub found_by : (s : ℕ) → s + 64 ≤ length run → (decode_block b m (stretch_at run s) (length codes)).answer ≡ Ok b → FoundBy b m run codes s
  unfolding find_block decodes_at
  found_by s inside e =
      let early : reached ≤ s = no_later s (ap is_text e) in
      record { start = reached; found = tells_start b m run (length codes) p good (omega arith); by = early }

pub first_block : FirstBlock
unfolding find_block
first_block = record {
  found = found_start_lem;
  none = λ b m run codes e start l.
      let s = none_searched b m run (length codes) e in
      unclear_before b m run codes _ s start l (omega (arith, not_chosen (first_start b m run (length codes)) (starts run) s.by));
}
