-- The lines of a piece: what is said of its bytes one after the other is said of one line after the other.
use mathlib.Core.Path.{◌≡◌, refl, sym}
use mathlib.Core.Bool.{Bool, true, false, cond}
use mathlib.Core.List.{List, [], ◌∷◌, ◌++◌, append_assoc}
use Prim.Native.Nat.{ℕ, suc, ◌<◌, ◌≤◌}
use native.Mathlib.Omega.{arith}
use lib.Dec.{eqb}
use lib.ListN.{length, drop}
use Rattle.text.specs.Ascii.{line_feed}
use Rattle.reader.specs.Reader.{next_tones, read_line, read_tones, before_feed, end_tones}
use Rattle.stages.specs.declared.Listing.{Listing}
use Rattle.stages.specs.Stages.{Said}
use Rattle.judge.specs.Judged.{closed}
use Rattle.listing.specs.Steps.{within_line, stepped, stepped_tones, and_then, piece_said, piece_tones}
use Rattle.listing.specs.Internal.{line_read, tones_read}

pub then_then : (a b : List ℕ) (said : Said) → and_then a (and_then b said) ≡ and_then (a ++ b) said
unfolding and_then
then_then a b said = λ i. record { text = sym (append_assoc a b said.text) i; next = said.next }

-- what a line makes of a listing
module _ (s : Listing) (tones line : List ℕ) where
  unfoldable pub line_said : Said
  line_said = closed (line_read s line) (tones_read s line tones)

  unfoldable pub line_tones : List ℕ
  line_tones = end_tones (line_read s line).line (tones_read s line tones)

-- bytes are said as a line that ended and others after it
abbrev LineFirst : Listing → List ℕ → List ℕ → Said → List ℕ → List ℕ → Type 0
LineFirst s tones line said kept others =
    (said ≡ and_then (line_said s tones line).text (piece_said (line_said s tones line).next (line_tones s tones line) others))
    × (kept ≡ piece_tones (line_said s tones line).next (line_tones s tones line) others)

-- and as a line that has not ended
abbrev LineAlone : Listing → List ℕ → List ℕ → Said → List ℕ → Type 0
LineAlone s tones line said kept = (said ≡ record { text = []; next = line_read s line }) × (kept ≡ tones_read s line tones)

module _ (c : ℕ) (cs : List ℕ) (s : Listing) (tones : List ℕ) where
  before : Bool → List ℕ
  before isFeed = cond isFeed [] (c ∷ before_feed cs)

  after : Bool → Said
  after isFeed = cond isFeed (closed s tones) (record { text = []; next = within_line s c })

  kept : Bool → List ℕ
  kept isFeed = cond isFeed (end_tones s.line tones) (next_tones s.line c tones)

pub line_said_lem : (cs : List ℕ) (s : Listing) (tones : List ℕ) → length (before_feed cs) < length cs
    → LineFirst s tones (before_feed cs) (piece_said s tones cs) (piece_tones s tones cs) (drop (suc (length (before_feed cs))) cs)
unfolding piece_said piece_tones stepped stepped_tones line_said line_tones line_read tones_read read_line read_tones before_feed and_then within_line before after kept
line_said_lem [] s tones h = absurd (omega arith)
line_said_lem (c ∷ cs) s tones h = by (eqb c line_feed) h (line_said_lem cs)
  where
    by : (t : Bool) → length (before c cs s tones t) < suc (length cs)
        → ((s : Listing) (tones : List ℕ) → length (before_feed cs) < length cs
        → LineFirst s tones (before_feed cs) (piece_said s tones cs) (piece_tones s tones cs) (drop (suc (length (before_feed cs))) cs))
        → LineFirst s tones (before c cs s tones t)
        (and_then (after c cs s tones t).text (piece_said (after c cs s tones t).next (kept c cs s tones t) cs))
        (piece_tones (after c cs s tones t).next (kept c cs s tones t) cs)
        (drop (suc (length (before c cs s tones t))) (c ∷ cs))
    by true h r = (refl, refl)
    by false h r = r (within_line s c) (next_tones s.line c tones) (omega arith)

pub rest_said : (cs : List ℕ) (s : Listing) (tones : List ℕ) → length cs ≤ length (before_feed cs)
    → LineAlone s tones (before_feed cs) (piece_said s tones cs) (piece_tones s tones cs)
unfolding piece_said piece_tones stepped stepped_tones line_read tones_read read_line read_tones before_feed and_then within_line before after kept
rest_said [] s tones h = (refl, refl)
rest_said (c ∷ cs) s tones h = by (eqb c line_feed) h (rest_said cs)
  where
    by : (t : Bool) → suc (length cs) ≤ length (before c cs s tones t)
        → ((s : Listing) (tones : List ℕ) → length cs ≤ length (before_feed cs) → LineAlone s tones (before_feed cs) (piece_said s tones cs) (piece_tones s tones cs))
        → LineAlone s tones (before c cs s tones t)
        (and_then (after c cs s tones t).text (piece_said (after c cs s tones t).next (kept c cs s tones t) cs))
        (piece_tones (after c cs s tones t).next (kept c cs s tones t) cs)
    by true h r = absurd (omega arith)
    by false h r = r (within_line s c) (next_tones s.line c tones) (omega arith)
