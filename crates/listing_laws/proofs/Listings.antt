-- What is printed byte by byte is the listing of the whole input: the law of the whole.
use mathlib.Core.Path.{◌≡◌, refl, sym, ◌∙◌, ap}
use mathlib.Core.Bool.{Bool, true, false, cond, not}
use mathlib.Core.List.{List, [], ◌∷◌, ◌++◌, append-nil}
use Prim.Native.Nat.{ℕ, suc, ◌+◌, ◌%◌, ◌^◌, ◌<◌, ◌≤◌, min}
use native.Mathlib.Decide.{ℕ_discrete}
use native.Mathlib.Omega.{arith}
use borrow.Author.Tests.{eq-eqb, ne_eqb}
use lib.Dec.{eqb}
use lib.ListN.{length, take, length-take}
use lib.Seq.{take_all, get_or-take}
use Rattle.lists.specs.Lists.{num, every}
use Rattle.text.specs.Ascii.{line_feed}
use Rattle.reader_laws.specs.Input.{on_first, lines, words, is_word, is_readable_first, is_readable, values_of}
use Rattle.reader.specs.Reader.{fresh, line_end, read_line}
use Rattle.reader_laws.proofs.LineReading.{reading}
use Rattle.reader_laws.proofs.KeptSizes.{read_size, end_size}
use Rattle.refusal.specs.Checks.{is_mode, is_lead}
use Rattle.refusal.specs.Refused.{refused_at}
use Rattle.block_decoder.specs.Decoding.{plain, decode_block}
use Rattle.block_decoder.specs.declared.BlockDecoded.{BlockDecoded}
use Rattle.block_decoder.proofs.DecodeCases.{refuses_count}
use Rattle.stages.specs.declared.Listing.{Listing}
use Rattle.report.specs.Output.{heading, refused_text, unreadable_text}
use Rattle.block_report.specs.Lines.{block_text}
use Rattle.listing_laws.specs.Listed.{block_heard, blocks_listed, checked_listed, lines_listed, listed}
use Rattle.stages.specs.Stages.{Said, begun, hearing, stopped, stops, is_stopped, ending_text}
use Rattle.judge.specs.Judged.{checked_said, settings_said, decoded_said, block_said, judged, closed, goes_on}
use Rattle.listing.specs.Steps.{last_line, and_then, ended, heard}
use Rattle.listing.specs.Internal.{line_read, tones_read}
use Rattle.listing.proofs.Lines.{line_said, line_tones}
use Rattle.listing_laws.specs.Printed.{is_piece, together, pieces_said, printed}
use Rattle.listing_laws.specs.Laws.{Whole, Live, Stops}
use Rattle.listing_laws.proofs.Pieces.{from_lines, printed_lines, last_ending, at_once, stopped_lines, silent}
use Rattle.refusal.specs.declared.Reason.{Reason}

-- ---- sizes

line_size : (s : Listing) (tones line : List ℕ) → length (line_tones s tones line) ≡ length tones
unfolding line_tones tones_read
line_size s tones line = end_size _ _ ∙ read_size _ line s.line tones

first_size : (c : ℕ) (ls : List (List ℕ)) (n : ℕ) → length ls ≤ n → length (on_first c ls) ≤ suc n
unfolding on_first
first_size c [] n h = omega arith
first_size c (line ∷ ls) n h = omega arith

lines_size : (cs : List ℕ) → length (lines cs) ≤ length cs
unfolding lines
lines_size [] = omega arith
lines_size (c ∷ cs) = by (eqb c line_feed) (lines_size cs)
  where
    by : (t : Bool) → length (lines cs) ≤ length cs → length (cond t ([] ∷ lines cs) (on_first c (lines cs))) ≤ suc (length cs)
    by true h = omega arith
    by false h = first_size c (lines cs) (length cs) h

-- ---- a text that stops the listing

last_text : (text tones : List ℕ) (ls : List (List ℕ)) → text ++ from_lines stopped tones ls ≡ text
last_text text tones ls = ap (λ (x : List ℕ). text ++ x) (stopped_lines ls stopped tones refl) ∙ append-nil text

-- ---- the lines of blocks

module _ (b m : ℕ) (e : is_mode b ≡ true) (f : is_lead m ≡ true) where
  -- a block's tones are looked at only if they are 64
  same_heard : (xs : List ℕ) → decode_block b m (take 255 xs) 8 ≡ decode_block b m xs 8
  same_heard xs = by (ℕ_discrete (length xs) 64)
    where
      by : Dec (length xs ≡ 64) → decode_block b m (take 255 xs) 8 ≡ decode_block b m xs 8
      by (yes n) = rw (take_all 255 xs (omega arith))
      by (no n) =
          refuses_count 1 b m (take 255 xs) plain 8 e f (λ h. n (omega (arith, length-take 255 xs)))
          ∙ sym (refuses_count 1 b m xs plain 8 e f n)

  module _ (k : ℕ) (line tones : List ℕ) where
    unreadable_said : is_readable line ≡ false → k + 2 < 2 ^ 64 → line_said (hearing b m k) tones line ≡ stops (unreadable_text (k + 2))
    unfolding line_said line_read closed judged block_said is_readable
    unreadable_said h few =
        let same : (k + 2) % 2 ^ 64 ≡ k + 2 = omega arith in
        rw (reading.readable true line, h, same)

    heard_said : is_readable line ≡ true → length tones ≡ 256 → line_said (hearing b m k) tones line ≡ decoded_said b m k (block_heard b m line)
    unfolding line_said line_read tones_read closed judged block_said is_readable block_heard
    heard_said h size =
        rw (reading.readable true line, h, reading.kept true line tones size h)
        (ap (decoded_said b m k) (same_heard (values_of line)))

  -- the next line is blockHeard if the answer lets the listing go on
  goes_on_lem : (k : ℕ) (d : BlockDecoded) (tones x : List ℕ) (ls : List (List ℕ))
      → from_lines (hearing b m ((k + 1) % 2 ^ 64)) tones ls ≡ x
      → (decoded_said b m k d).text ++ from_lines (decoded_said b m k d).next tones ls ≡ block_text k d ++ cond (goes_on d.answer) x []
  unfolding decoded_said
  goes_on_lem k d tones x ls r = by (goes_on d.answer)
    where
      said : Bool → Said
      said t = cond t (record { text = block_text k d; next = hearing b m ((k + 1) % 2 ^ 64) }) (stops (block_text k d))

      by : (t : Bool) → (said t).text ++ from_lines (said t).next tones ls ≡ block_text k d ++ cond t x []
      by true = ap (λ (y : List ℕ). block_text k d ++ y) r
      by false = ap (λ (y : List ℕ). block_text k d ++ y) (stopped_lines ls stopped tones refl)

  blocks_listed_lem : (ls : List (List ℕ)) (k : ℕ) (tones : List ℕ) → length tones ≡ 256 → k + length ls + 2 ≤ 2 ^ 64
      → from_lines (hearing b m k) tones ls ≡ blocks_listed b m k ls
  unfolding from_lines ended and_then last_line ending_text blocks_listed
  blocks_listed_lem [] k tones size few = refl
  blocks_listed_lem (line ∷ ls) k tones size few = by (is_readable line) refl (blocks_listed_lem ls (suc k))
    where
      by : (t : Bool) → is_readable line ≡ t
          → ((x : List ℕ) → length x ≡ 256 → suc k + length ls + 2 ≤ 2 ^ 64 → from_lines (hearing b m (suc k)) x ls ≡ blocks_listed b m (suc k) ls)
          → from_lines (hearing b m k) tones (line ∷ ls) ≡ blocks_listed b m k (line ∷ ls)
      by false h r = rw (h, unreadable_said k line tones h (omega arith)) (last_text (unreadable_text (k + 2)) (line_tones (hearing b m k) tones line) ls)
      by true h r =
          let next : (k + 1) % 2 ^ 64 ≡ suc k = omega arith in
          rw (h, heard_said k line tones h size)
          (goes_on_lem k (block_heard b m line) (line_tones (hearing b m k) tones line) (blocks_listed b m (suc k) ls) ls
          (rw next (r (line_tones (hearing b m k) tones line) (line_size (hearing b m k) tones line ∙ size) (omega arith))))

-- ---- line 1

checked_listed_lem : (b m : ℕ) (tones : List ℕ) (ls : List (List ℕ)) → length tones ≡ 256 → length ls + 2 ≤ 2 ^ 64
    → (checked_said b m).text ++ from_lines (checked_said b m).next tones ls ≡ checked_listed b m ls
unfolding checked_said checked_listed
checked_listed_lem b m tones ls size few = by (is_mode b) refl (is_lead m) refl
  where
    said : Bool → Bool → Said
    said t u = cond (not t) (stops (refused_text (refused_at Reason.Mode 0))) (cond (not u) (stops (refused_text (refused_at Reason.LeastLead 0))) (record { text = []; next = hearing b m 0 }))

    by : (t : Bool) → is_mode b ≡ t → (u : Bool) → is_lead m ≡ u
        → (said t u).text ++ from_lines (said t u).next tones ls
        ≡ cond (not t) (refused_text (refused_at Reason.Mode 0)) (cond (not u) (refused_text (refused_at Reason.LeastLead 0)) (blocks_listed b m 0 ls))
    by true e true f = blocks_listed_lem b m e f ls 0 tones size (omega arith)
    by true e false f = last_text (refused_text (refused_at Reason.LeastLead 0)) tones ls
    by false e u f = last_text (refused_text (refused_at Reason.Mode 0)) tones ls

module _ (line tones : List ℕ) (size : length tones ≡ 256) where
  -- two words that were read are the settings
  setting_read : every (is_word false) (words line) ≡ true → length (words line) ≡ 2 → (i : ℕ) → i < 2
      → num (line_tones begun tones line) i ≡ num (values_of line) i
  unfolding line_tones line_read tones_read
  setting_read h n i l =
      let two : (line_end (read_line false fresh line)).count ≡ 2 = reading.count false line h ∙ omega arith in
      let kept = rw two at (reading.kept false line tones size h) in
      sym (get_or-take 2 (line_tones begun tones line) i 0 l) ∙ ap (λ (x : List ℕ). num x i) kept ∙ get_or-take 255 (values_of line) i 0 (omega arith)

  settings_said_lem : line_said begun tones line ≡ cond (is_readable_first line) (checked_said (num (values_of line) 0) (num (values_of line) 1)) (stops (unreadable_text 1))
  unfolding line_said line_tones line_read closed judged settings_said is_readable_first
  settings_said_lem = by (every (is_word false) (words line)) refl (ℕ_discrete (length (words line)) 2)
    where
      by : (t : Bool) → every (is_word false) (words line) ≡ t → Dec (length (words line) ≡ 2)
          → line_said begun tones line ≡ cond (is_readable_first line) (checked_said (num (values_of line) 0) (num (values_of line) 1)) (stops (unreadable_text 1))
      by false h d = rw (reading.readable false line, h)
      by true h (no n) =
          rw (reading.readable false line, h, reading.count false line h, ne_eqb (min (length (words line)) 255) 2 (λ z. n (omega arith)), ne_eqb (length (words line)) 2 n)
      by true h (yes n) =
          rw (
            reading.readable false line,
            h,
            reading.count false line h,
            eq-eqb (min (length (words line)) 255) 2 (omega arith),
            eq-eqb (length (words line)) 2 n,
            setting_read h n 0 (omega arith),
            setting_read h n 1 (omega arith),
          )

lines_listed_lem : (ls : List (List ℕ)) (tones : List ℕ) → length tones ≡ 256 → length ls < 2 ^ 64 → from_lines begun tones ls ≡ lines_listed ls
unfolding from_lines ended and_then last_line ending_text lines_listed
lines_listed_lem [] tones size few = refl
lines_listed_lem (line ∷ ls) tones size few = rw (settings_said_lem line tones size) (by (is_readable_first line))
  where
    b : ℕ
    b = num (values_of line) 0

    m : ℕ
    m = num (values_of line) 1

    said : Bool → Said
    said t = cond t (checked_said b m) (stops (unreadable_text 1))

    by : (t : Bool) → (said t).text ++ from_lines (said t).next (line_tones begun tones line) ls ≡ cond (not t) (unreadable_text 1) (checked_listed b m ls)
    by true = checked_listed_lem b m (line_tones begun tones line) ls (line_size begun tones line ∙ size) (omega arith)
    by false = last_text (unreadable_text 1) (line_tones begun tones line) ls

module _ (pieces : List (List ℕ)) (tones : List ℕ) (full : every is_piece pieces ≡ true) (size : length tones ≡ 256) (few : length (together pieces) < 2 ^ 64) where
  whole_listed : heading ++ printed begun tones pieces ≡ listed (together pieces)
  unfolding listed
  whole_listed =
      ap (λ (x : List ℕ). heading ++ x)
      (printed_lines pieces begun tones full ∙ lines_listed_lem (lines (together pieces)) tones size (omega (arith, lines_size (together pieces))))

  live_listed : (input : List ℕ) → together pieces ≡ input ++ (line_feed ∷ []) → let said = pieces_said begun tones pieces in
      heading ++ (said.text ++ ending_text said.next.stage said.next.blocks) ≡ listed (together pieces)
  unfolding printed heard
  live_listed input e =
      let once = at_once pieces begun tones full in
      let ending = (λ i. (ended (once.0 i).next (once.1 i)).text) ∙ last_ending (together pieces) input begun tones e
      ∙ ap (λ (x : Said). ending_text x.next.stage x.next.blocks) (sym once.0) in
      ap (λ (x : List ℕ). heading ++ ((pieces_said begun tones pieces).text ++ x)) (sym ending) ∙ whole_listed

pub whole : Whole
whole = record { all = whole_listed }

pub live : Live
live = record { lines = λ pieces tones input full size few. live_listed pieces tones full size few input }

at_end : (s : Listing) (tones : List ℕ) → is_stopped (heard s tones []).next.stage ≡ true
unfolding heard ended and_then
at_end s tones = refl

pub stops_silent : Stops
stops_silent = record { at_end = at_end; silent = silent }
