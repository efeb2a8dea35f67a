-- A line read byte by byte, up to a line feed: what is still to be read gives the same.
use mathlib.Core.Path.{◌≡◌, sym, ◌∙◌, ap}
use mathlib.Core.Bool.{Bool}
use mathlib.Core.List.{List, [], ◌∷◌}
use Prim.Native.Nat.{ℕ, ◌+◌, ◌<◌, ◌≤◌, max}
use native.Mathlib.Decide.{dec_le}
use native.Mathlib.Numerals.{add-one}
use native.Mathlib.Omega.{arith}
use borrow.Author.Tests.{eq-eqb, ne_eqb}
use lib.ListN.{length, get_or, drop_of_length-le}
use lib.Seq.{drop-cons}
use Rattle.text.specs.Ascii.{line_feed}
use Rattle.reader.specs.declared.Line.{Line}
use Rattle.reader.specs.declared.Stretch.{Stretch}
use Rattle.reader.specs.Reader.{next_line, next_tones, read_line, read_tones, before_feed, line_from, stretch}

module _ (bytes : List ℕ) (at : ℕ) where
  pub byte_first : at < length bytes → (get_or bytes at 0 ≡ line_feed → ⊥) → line_from bytes at ≡ get_or bytes at 0 ∷ line_from bytes (at + 1)
  unfolding line_from before_feed
  byte_first h n = rw (drop-cons bytes at 0 h, ne_eqb (get_or bytes at 0) line_feed n, add-one at)

  pub feed_first : at < length bytes → get_or bytes at 0 ≡ line_feed → line_from bytes at ≡ []
  unfolding line_from before_feed
  feed_first h e = rw (drop-cons bytes at 0 h, eq-eqb (get_or bytes at 0) line_feed e)

  pub none_left : length bytes ≤ at → line_from bytes at ≡ []
  unfolding line_from before_feed
  none_left h = rw (drop_of_length-le bytes h)

-- reading on from a place gives what reading from the start gives
pub record ReadsOn (marks : Bool) (bytes : List ℕ) (line₀ : Line) (from : ℕ) (tones₀ : List ℕ) (line : Line) (at : ℕ) (tones : List ℕ) : Type 0 where
  pub the_line : read_line marks line₀ (line_from bytes from) ≡ read_line marks line (line_from bytes at)
  pub the_tones : read_tones marks line₀ (line_from bytes from) tones₀ ≡ read_tones marks line (line_from bytes at) tones
  pub the_place : from + length (line_from bytes from) ≡ at + length (line_from bytes at)

module _ (marks : Bool) (bytes : List ℕ) where
  module _ {line₀ : Line} {from : ℕ} {tones₀ : List ℕ} (line : Line) (at : ℕ) (tones : List ℕ)
      (r : ReadsOn marks bytes line₀ from tones₀ line at tones) where
    pub reads_byte : {next : Line} {kept : List ℕ} → at < length bytes → (get_or bytes at 0 ≡ line_feed → ⊥)
        → next ≡ next_line marks line (get_or bytes at 0) → kept ≡ next_tones line (get_or bytes at 0) tones
        → ReadsOn marks bytes line₀ from tones₀ next (at + 1) kept
    unfolding read_line read_tones
    reads_byte {next} {kept} h n e f =
        let first = byte_first bytes at h n in
        record {
          the_line = r.the_line ∙ ap (read_line marks line) first ∙ ap (λ (l : Line). read_line marks l (line_from bytes (at + 1))) (sym e);
          the_tones = r.the_tones ∙ ap (λ (x : List ℕ). read_tones marks line x tones) first
              ∙ ap (λ (l : Line). read_tones marks l (line_from bytes (at + 1)) (next_tones line (get_or bytes at 0) tones)) (sym e)
              ∙ ap (read_tones marks next (line_from bytes (at + 1))) (sym f);
          the_place = omega (arith, r.the_place, ap length first);
        }

    -- nothing is left of the line
    pub all_read : line_from bytes at ≡ []
        → (◌≡◌ {A = Stretch} (record { line = line; at = at }) (stretch marks line₀ bytes from))
        × (tones ≡ read_tones marks line₀ (line_from bytes from) tones₀)
    unfolding read_line read_tones stretch
    all_read e =
        let whole : line ≡ read_line marks line₀ (line_from bytes from) = sym (r.the_line ∙ ap (read_line marks line) e) in
        let place : at ≡ from + length (line_from bytes from) = omega (arith, r.the_place, ap length e) in
        (λ i. record { line = whole i; at = place i }, sym (r.the_tones ∙ ap (λ (x : List ℕ). read_tones marks line x tones) e))

    -- where the bytes end, or where the reading began if that is further on
    pub end_place : (from ≤ length bytes → at ≤ length bytes) → from ≤ at → length bytes ≤ at → max from (length bytes) ≡ at
    end_place low high past = by (dec_le from (length bytes))
      where
        by : Dec (from ≤ length bytes) → max from (length bytes) ≡ at
        by (yes l) = omega (arith, low l)
        by (no k) = omega (arith, r.the_place, ap length (none_left bytes from (omega arith)))
