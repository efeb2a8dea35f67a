-- How much a piece can give: the text of a block is paid for by the bytes of its line.
use mathlib.Core.Path.{◌≡◌, refl}
use mathlib.Core.Bool.{Bool, true, false, cond, not, ◌&&◌, and-eq-true_iff}
use mathlib.Core.List.{List, [], ◌∷◌}
use Prim.Native.Nat.{ℕ, ◌+◌, ◌*◌, ◌%◌, ◌^◌, ◌≤◌, min}
use native.Mathlib.Decide.{ℕ_discrete}
use native.Mathlib.Omega.{arith}
use borrow.Author.Tests.{eqb-true}
use lib.Dec.{eqb}
use lib.ListN.{length, take, length-take}
use Rattle.text.specs.Ascii.{space}
use Rattle.lists.specs.Lists.{num}
use Rattle.reader.specs.declared.Word.TheVariants.{Empty, Unreadable}
use Rattle.reader.specs.declared.Line.{Line}
use Rattle.reader.specs.Reader.{next_word, is_whole, is_empty, is_blank, is_read, word_end, next_line, read_line, line_end, end_tones}
use Rattle.refusal.specs.Checks.{is_mode, is_lead}
use Rattle.block_decoder.specs.Decoding.{plain, refused, decode_block}
use Rattle.block_decoder.specs.declared.BlockDecoded.{BlockDecoded}
use Rattle.block_decoder.proofs.DecodeCases.{refuses_mode, refuses_lead, refuses_count}
use Rattle.report.specs.Output.{unreadable_text}
use Rattle.block_report.specs.Lines.{block_text}
use Rattle.stages.specs.declared.Stage.{Stage}
use Rattle.stages.specs.declared.Stage.TheVariants.{Settings, Blocks, Stopped}
use Rattle.stages.specs.declared.Listing.{Listing}
use Rattle.stages.specs.Stages.{Said, is_stopped, stops, hearing}
use Rattle.judge.specs.Judged.{checked_said, settings_said, decoded_said, block_said, judged, closed, goes_on}
use Rattle.listing.specs.Steps.{takes_marks}
use Rattle.listing.specs.Internal.{line_read}

-- ---- what a line has cost

abbrev bit : Bool → ℕ
bit t = cond t 1 0

bit_small : (t : Bool) → bit t ≤ 1
bit_small true = omega arith
bit_small false = omega arith

-- the bytes that a line has had at least: two for each word that ended, and one for a word that has begun
abbrev pub spent : Line → ℕ
spent line = 2 * line.count + bit (is_whole line.word)

spent_end : (line : Line) → spent (word_end line) ≤ spent line + 1
unfolding word_end
spent_end line = by (is_whole line.word)
  where
    by : (t : Bool) → spent (cond t (record { word = Empty; count = min (line.count + 1) 255 }) (record { word = Unreadable; count = line.count })) ≤ 2 * line.count + bit t + 1
    by true = omega arith
    by false = omega arith

spent_next : (marks : Bool) (line : Line) (c : ℕ) → spent (next_line marks line c) ≤ spent line + 1
unfolding next_line
spent_next marks line c = by (eqb c space)
  where
    by : (t : Bool) → spent (cond t (word_end line) (record { word = next_word marks line.word c; count = line.count })) ≤ spent line + 1
    by true = spent_end line
    by false = omega (arith, bit_small (is_whole (next_word marks line.word c)))

spent_read : (marks : Bool) (cs : List ℕ) (line : Line) → spent (read_line marks line cs) ≤ spent line + length cs
unfolding read_line
spent_read marks [] line = omega arith
spent_read marks (c ∷ cs) line = omega (arith, spent_read marks cs (next_line marks line c), spent_next marks line c)

-- a line of 64 words or more that was read to its end
long_line : (line : Line) → is_read (line_end line) ≡ true → 64 ≤ (line_end line).count → 127 ≤ spent line
unfolding line_end word_end
long_line line e h = by (is_blank line) refl (is_whole line.word) refl e h
  where
    ended : Bool → Line
    ended u = cond u (record { word = Empty; count = min (line.count + 1) 255 }) (record { word = Unreadable; count = line.count })

    by : (t : Bool) → is_blank line ≡ t → (u : Bool) → is_whole line.word ≡ u → is_read (cond t line (ended u)) ≡ true → 64 ≤ (cond t line (ended u)).count
        → 127 ≤ 2 * line.count + bit u
    by true p u q e h = omega (arith, h, eqb-true line.count 0 ((and-eq-true_iff (is_empty line.word) (eqb line.count 0)).0 p).1)
    by false p true q e h = omega arith
    by false p false q e h = let z : ◌≡◌ {A = ℕ} 0 1 = cc in absurd (omega arith)

-- ---- what a listing may still write

-- 128 stand for the text that stops it
abbrev pub due : Listing → ℕ
due s = cond (is_stopped s.stage) 0 (spent s.line + 128)

pub due_most : (s : Listing) → s.line.count ≤ 255 → due s ≤ 639
due_most s h = by (is_stopped s.stage)
  where
    by : (t : Bool) → cond t 0 (spent s.line + 128) ≤ 639
    by true = omega arith
    by false = omega (arith, bit_small (is_whole s.line.word))

pub due_read : (s : Listing) (cs : List ℕ) → due (line_read s cs) ≤ due s + length cs
unfolding line_read
due_read s cs = by (is_stopped s.stage)
  where
    by : (t : Bool) → cond t 0 (spent (line_read s cs).line + 128) ≤ cond t 0 (spent s.line + 128) + length cs
    by true = omega arith
    by false = omega (arith, spent_read (takes_marks s.stage) cs s.line)

-- ---- the end of a line

-- a listing goes on after a block only if the line has 64 tones
on_count : (b m : ℕ) (tones : List ℕ) → goes_on (decode_block b m tones 8).answer ≡ true → length tones ≡ 64
unfolding refused
on_count b m tones e = by (is_mode b) refl (is_lead m) refl (ℕ_discrete (length tones) 64)
  where
    no_other : {d : BlockDecoded} → decode_block b m tones 8 ≡ d → goes_on d.answer ≡ false → length tones ≡ 64
    no_other p q = let z : ◌≡◌ {A = ℕ} 0 1 = cc in absurd (omega arith)

    by : (t : Bool) → is_mode b ≡ t → (u : Bool) → is_lead m ≡ u → Dec (length tones ≡ 64) → length tones ≡ 64
    by t p u q (yes n) = n
    by true p true q (no n) = no_other (refuses_count 1 b m tones plain 8 p q n) refl
    by true p false q (no n) = no_other (refuses_lead 1 b m tones plain 8 p q) refl
    by false p u q (no n) = no_other (refuses_mode 1 b m tones plain 8 p) refl

-- what is written is paid for
record Paid (credit : ℕ) (said : Said) : Type 0 where
  paid : length said.text ≤ 1024 → length said.text + 8 * due said.next ≤ 8 * (credit + 1)

stops_paid : (line : Line) (text : List ℕ) → Paid (spent line + 128) (stops text)
stops_paid line text = record { paid = λ h. omega arith }

either_paid : {credit : ℕ} (t : Bool) {x y : Said} → Paid credit x → Paid credit y → Paid credit (cond t x y)
either_paid true p q = p
either_paid false p q = q

settings_paid : (line ended : Line) (tones : List ℕ) → Paid (spent line + 128) (settings_said ended tones)
unfolding settings_said checked_said
settings_paid line ended tones =
    either_paid (is_read ended && eqb ended.count 2)
    (either_paid (not (is_mode (num tones 0))) (stops_paid line _) (either_paid (not (is_lead (num tones 1))) (stops_paid line _) (record { paid = λ h. omega arith })))
    (stops_paid line _)

block_paid : (b m k : ℕ) (line : Line) (tones : List ℕ) → Paid (spent line + 128) (block_said b m k (line_end line) tones)
unfolding block_said decoded_said
block_paid b m k line tones = by (is_read (line_end line)) refl (goes_on d.answer) refl
  where
    d : BlockDecoded
    d = decode_block b m (take (line_end line).count tones) 8

    by : (t : Bool) → is_read (line_end line) ≡ t → (u : Bool) → goes_on d.answer ≡ u
        → Paid (spent line + 128)
        (cond t (cond u (record { text = block_text k d; next = hearing b m ((k + 1) % 2 ^ 64) }) (stops (block_text k d))) (stops (unreadable_text ((k + 2) % 2 ^ 64))))
    by true p true q =
        let long = long_line line p (omega (arith, on_count b m _ q, length-take (line_end line).count tones)) in
        record { paid = λ h. omega (arith, h, long) }
    by true p false q = stops_paid line _
    by false p u q = stops_paid line _

-- a text of at most 1,024 bytes, and what may still be written after it
pub closed_paid : (s : Listing) (tones : List ℕ) → length (closed s tones).text ≤ 1024 → length (closed s tones).text + 8 * due (closed s tones).next ≤ 8 * (due s + 1)
unfolding closed judged
closed_paid s tones = (by s.stage).paid
  where
    by : (g : Stage) → Paid (cond (is_stopped g) 0 (spent s.line + 128)) (judged g s (line_end s.line) (end_tones s.line tones))
    by Settings = settings_paid s.line (line_end s.line) (end_tones s.line tones)
    by Blocks = block_paid s.mode s.least_lead s.blocks s.line (end_tones s.line tones)
    by Stopped = record { paid = λ h. omega arith }
