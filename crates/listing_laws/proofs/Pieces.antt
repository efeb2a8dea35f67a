-- What is printed piece by piece is what is printed line by line, and a listing that stopped prints nothing.
use mathlib.Core.Path.{◌≡◌, refl, sym, ◌∙◌, ap}
use mathlib.Core.Bool.{Bool, true, false, cond, not, ◌&&◌}
use mathlib.Core.List.{List, [], ◌∷◌, ◌++◌, append_assoc}
use Prim.Native.Nat.{ℕ}
use native.Mathlib.Omega.{arith}
use lib.Dec.{eqb}
use lib.ListN.{take}
use Rattle.lists.specs.Lists.{num, every}
use Rattle.text.specs.Ascii.{line_feed}
use Rattle.reader.specs.declared.Line.{Line}
use Rattle.reader_laws.specs.Input.{on_first, lines}
use Rattle.reader.specs.Reader.{fresh, is_empty, is_blank, next_line, next_tones, line_end, end_tones, read_line, read_tones}
use Rattle.reader_laws.proofs.LineReading.{next_not_blank}
use Rattle.refusal.specs.Checks.{is_mode, is_lead}
use Rattle.block_decoder.specs.Decoding.{decode_block}
use Rattle.stages.specs.declared.Stage.{Stage}
use Rattle.stages.specs.declared.Stage.TheVariants.{Settings, Blocks, Stopped}
use Rattle.stages.specs.declared.Listing.{Listing}
use Rattle.stages.specs.Stages.{Said, stopped, is_stopped, ending_text}
use Rattle.judge.specs.Judged.{checked_said, settings_said, decoded_said, block_said, judged, closed, goes_on}
use Rattle.listing.specs.Steps.{takes_marks, within_line, stepped, stepped_tones, last_line, and_then, ended, piece_said, piece_tones, heard, heard_tones}
use Rattle.listing.specs.Internal.{line_read, tones_read}
use Rattle.judge.proofs.StageCases.{closes_stopped}
use Rattle.listing.proofs.LastLine.{closes_last}
use Rattle.listing.proofs.Lines.{then_then, line_said, line_tones}
use Rattle.listing_laws.specs.Printed.{is_piece, together, pieces_said, pieces_tones, printed}

-- ---- line by line

-- what is printed from a state on, line after line
unfoldable pub from_lines : Listing → List ℕ → List (List ℕ) → List ℕ
from_lines s tones [] = (ended s tones).text
from_lines s tones (line ∷ rest) = (line_said s tones line).text ++ from_lines (line_said s tones line).next (line_tones s tones line) rest

-- ---- a line that ended leaves a fresh line

either_fresh : (t : Bool) (x y : Said) → x.next.line ≡ fresh → y.next.line ≡ fresh → (cond t x y).next.line ≡ fresh
either_fresh true x y p q = p
either_fresh false x y p q = q

judged_fresh : (g : Stage) (s : Listing) (line : Line) (tones : List ℕ) → (judged g s line tones).next.line ≡ fresh
unfolding judged settings_said checked_said block_said decoded_said
judged_fresh Settings s line tones =
    either_fresh (is_empty line.word && eqb line.count 2) _ _
    (either_fresh (not (is_mode (num tones 0))) _ _ refl (either_fresh (not (is_lead (num tones 1))) _ _ refl refl)) refl
judged_fresh Blocks s line tones =
    either_fresh (is_empty line.word) _ _
    (either_fresh (goes_on (decode_block s.mode s.least_lead (take line.count tones) 8).answer) _ _ refl refl) refl
judged_fresh Stopped s line tones = refl

closed_fresh : (s : Listing) (tones : List ℕ) → (closed s tones).next.line ≡ fresh
unfolding closed
closed_fresh s tones = judged_fresh s.stage s (line_end s.line) (end_tones s.line tones)

-- ---- byte by byte

-- a piece, and the input's end
abbrev all_said : Listing → List ℕ → List ℕ → List ℕ
all_said s tones cs = (piece_said s tones cs).text ++ (ended (piece_said s tones cs).next (piece_tones s tones cs)).text

-- an input that ends after a line
finished_after : (s : Listing) (tones x : List ℕ) → (ended (closed s tones).next x).text ≡ ending_text (closed s tones).next.stage (closed s tones).next.blocks
unfolding ended and_then last_line
finished_after s tones x = rw (closed_fresh s tones)

-- an input that ends within a line
finished_within : (s : Listing) (tones : List ℕ) → is_blank s.line ≡ false
    → (ended s tones).text ≡ (closed s tones).text ++ ending_text (closed s tones).next.stage (closed s tones).next.blocks
unfolding ended and_then
finished_within s tones e = rw (closes_last s tones e)

-- a byte that is read before the lines
byte_first : (s : Listing) (tones : List ℕ) (c : ℕ) (ls : List (List ℕ)) → from_lines (within_line s c) (next_tones s.line c tones) ls ≡ from_lines s tones (on_first c ls)
unfolding from_lines line_said line_tones line_read tones_read read_line read_tones within_line on_first
byte_first s tones c [] =
    let x = next_tones s.line c tones in
    finished_within (within_line s c) x (next_not_blank (takes_marks s.stage) s.line c)
    ∙ ap (λ (y : List ℕ). (closed (within_line s c) x).text ++ y)
    (sym (finished_after (within_line s c) x (end_tones (next_line (takes_marks s.stage) s.line c) x)))
byte_first s tones c (line ∷ ls) = refl

byte_lines : (cs : List ℕ) (s : Listing) (tones : List ℕ) → all_said s tones cs ≡ from_lines s tones (lines cs)
unfolding piece_said piece_tones and_then from_lines stepped stepped_tones lines line_said line_tones line_read tones_read read_line read_tones
byte_lines [] s tones = refl
byte_lines (c ∷ cs) s tones = append_assoc (stepped s c tones).text _ _ ∙ by (eqb c line_feed) (byte_lines cs)
  where
    by : (t : Bool) → ((s : Listing) (tones : List ℕ) → all_said s tones cs ≡ from_lines s tones (lines cs))
        → (cond t (closed s tones) (record { text = []; next = within_line s c })).text
        ++ all_said (cond t (closed s tones) (record { text = []; next = within_line s c })).next (cond t (end_tones s.line tones) (next_tones s.line c tones)) cs
        ≡ from_lines s tones (cond t ([] ∷ lines cs) (on_first c (lines cs)))
    by true r = ap (λ (x : List ℕ). (closed s tones).text ++ x) (r (closed s tones).next (end_tones s.line tones))
    by false r = r (within_line s c) (next_tones s.line c tones) ∙ byte_first s tones c (lines cs)

-- ---- a listing that stopped

stopped_stage : (g : Stage) → is_stopped g ≡ true → g ≡ Stopped
stopped_stage Settings e = let z : ◌≡◌ {A = ℕ} 0 1 = cc in absurd (omega arith)
stopped_stage Blocks e = let z : ◌≡◌ {A = ℕ} 0 1 = cc in absurd (omega arith)
stopped_stage Stopped e = refl

pub stopped_lines : (ls : List (List ℕ)) (s : Listing) (tones : List ℕ) → s.stage ≡ Stopped → from_lines s tones ls ≡ []
unfolding from_lines ended and_then last_line line_said line_read ending_text
stopped_lines [] s tones e = by (is_blank s.line) refl
  where
    by : (t : Bool) → is_blank s.line ≡ t → (ended s tones).text ≡ []
    by true h = rw (h, e)
    by false h = rw (h, closes_stopped s tones e)
stopped_lines (line ∷ ls) s tones e =
    rw (closes_stopped (line_read s line) (tones_read s line tones) e)
    (stopped_lines ls stopped (line_tones s tones line) refl)

-- ---- piece by piece

-- the bytes of two pieces, one after the other
two_pieces : (xs : List ℕ) (s : Listing) (tones ys : List ℕ)
    → (piece_said s tones (xs ++ ys) ≡ and_then (piece_said s tones xs).text (piece_said (piece_said s tones xs).next (piece_tones s tones xs) ys))
    × (piece_tones s tones (xs ++ ys) ≡ piece_tones (piece_said s tones xs).next (piece_tones s tones xs) ys)
unfolding piece_said piece_tones and_then
two_pieces [] s tones ys = (refl, refl)
two_pieces (c ∷ cs) s tones ys =
    let rest = two_pieces cs (stepped s c tones).next (stepped_tones s c tones) ys in
    (ap (and_then (stepped s c tones).text) rest.0 ∙ then_then (stepped s c tones).text _ _, rest.1)

-- pieces are heard as if they came at once
pub at_once : (pieces : List (List ℕ)) (s : Listing) (tones : List ℕ) → every is_piece pieces ≡ true
    → (pieces_said s tones pieces ≡ piece_said s tones (together pieces)) × (pieces_tones s tones pieces ≡ piece_tones s tones (together pieces))
unfolding pieces_said pieces_tones together every heard heard_tones piece_said piece_tones
at_once [] s tones e = (refl, refl)
at_once ([] ∷ pieces) s tones e = let z : ◌≡◌ {A = ℕ} 0 1 = cc in absurd (omega arith)
at_once ((c ∷ cs) ∷ pieces) s tones e =
    let both = two_pieces (c ∷ cs) s tones (together pieces) in
    let rest = at_once pieces (piece_said s tones (c ∷ cs)).next (piece_tones s tones (c ∷ cs)) e in
    (ap (and_then (piece_said s tones (c ∷ cs)).text) rest.0 ∙ sym both.0, rest.1 ∙ sym both.1)

pub printed_lines : (pieces : List (List ℕ)) (s : Listing) (tones : List ℕ) → every is_piece pieces ≡ true → printed s tones pieces ≡ from_lines s tones (lines (together pieces))
unfolding printed heard
printed_lines pieces s tones e =
    let once = at_once pieces s tones e in
    (λ i. (once.0 i).text ++ (ended (once.0 i).next (once.1 i)).text) ∙ byte_lines (together pieces) s tones

-- ---- after a line feed

feed_fresh : (cs : List ℕ) (s : Listing) (tones : List ℕ) → (piece_said s tones (cs ++ (line_feed ∷ []))).next.line ≡ fresh
unfolding piece_said and_then stepped
feed_fresh [] s tones = closed_fresh s tones
feed_fresh (c ∷ cs) s tones = feed_fresh cs (stepped s c tones).next (stepped_tones s c tones)

-- what a listing prints at the end, if a line feed was last
pub last_ending : (cs input : List ℕ) (s : Listing) (tones : List ℕ) → cs ≡ input ++ (line_feed ∷ []) → let said = piece_said s tones cs in
    (ended said.next (piece_tones s tones cs)).text ≡ ending_text said.next.stage said.next.blocks
unfolding ended and_then last_line
last_ending cs input s tones e = rw (ap (λ (x : List ℕ). (piece_said s tones x).next.line) e ∙ feed_fresh input s tones)

-- ---- a listing that has stopped

-- nothing is said, and the listing stays as it is
record Silent (said : Said) : Type 0 where
  no_text : said.text ≡ []
  stays : said.next.stage ≡ Stopped

then_silent : (text : List ℕ) (said : Said) → text ≡ [] → Silent said → Silent (and_then text said)
unfolding and_then
then_silent text said e h = record { no_text = rw (e, h.no_text); stays = h.stays }

stopped_step : (c : ℕ) (s : Listing) (tones : List ℕ) → s.stage ≡ Stopped → Silent (stepped s c tones)
unfolding stepped within_line
stopped_step c s tones e = by (eqb c line_feed)
  where
    by : (t : Bool) → Silent (cond t (closed s tones) (record { text = []; next = within_line s c }))
    by true = rw (closes_stopped s tones e) (record { no_text = refl; stays = refl })
    by false = record { no_text = refl; stays = e }

stopped_piece : (cs : List ℕ) (s : Listing) (tones : List ℕ) → s.stage ≡ Stopped → Silent (piece_said s tones cs)
unfolding piece_said
stopped_piece [] s tones e = record { no_text = refl; stays = e }
stopped_piece (c ∷ cs) s tones e =
    let first = stopped_step c s tones e in
    then_silent _ _ first.no_text (stopped_piece cs (stepped s c tones).next (stepped_tones s c tones) first.stays)

stopped_heard : (cs : List ℕ) (s : Listing) (tones : List ℕ) → s.stage ≡ Stopped → Silent (heard s tones cs)
unfolding heard ended and_then from_lines
stopped_heard [] s tones e = record { no_text = stopped_lines [] s tones e; stays = refl }
stopped_heard (c ∷ cs) s tones e = stopped_piece (c ∷ cs) s tones e

stopped_pieces : (pieces : List (List ℕ)) (s : Listing) (tones : List ℕ) → s.stage ≡ Stopped → Silent (pieces_said s tones pieces)
unfolding pieces_said
stopped_pieces [] s tones e = record { no_text = refl; stays = e }
stopped_pieces (piece ∷ pieces) s tones e =
    let first = stopped_heard piece s tones e in
    then_silent _ _ first.no_text (stopped_pieces pieces (heard s tones piece).next (heard_tones s tones piece) first.stays)

pub silent : (s : Listing) (tones : List ℕ) (pieces : List (List ℕ)) → is_stopped s.stage ≡ true → printed s tones pieces ≡ []
unfolding printed
silent s tones pieces e =
    let said = stopped_pieces pieces s tones (stopped_stage s.stage e) in
    rw said.no_text (stopped_heard [] (pieces_said s tones pieces).next (pieces_tones s tones pieces) said.stays).no_text
