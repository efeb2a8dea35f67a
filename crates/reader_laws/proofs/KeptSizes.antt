-- The array that the values of a line are kept in has its length whatever is read.
use mathlib.Core.Path.{◌≡◌, refl, ◌∙◌}
use mathlib.Core.Bool.{Bool, true, false, cond}
use mathlib.Core.List.{List, [], ◌∷◌}
use Prim.Native.Nat.{ℕ}
use lib.Dec.{eqb}
use lib.ListN.{length, length-set}
use Rattle.text.specs.Ascii.{space}
use Rattle.reader.specs.declared.Line.{Line}
use Rattle.reader.specs.Reader.{is_whole, tone_in, is_blank, next_line, next_tones, kept_tone, end_tones, read_tones}

either_size : (t : Bool) (x y : List ℕ) (n : ℕ) → length x ≡ n → length y ≡ n → length (cond t x y) ≡ n
either_size true x y n p q = p
either_size false x y n p q = q

module _ (line : Line) (tones : List ℕ) where
  kept_size : length (kept_tone line tones) ≡ length tones
  unfolding kept_tone
  kept_size = either_size (is_whole line.word) _ _ _ (length-set tones line.count (tone_in line.word)) refl

  next_size : (c : ℕ) → length (next_tones line c tones) ≡ length tones
  unfolding next_tones
  next_size c = either_size (eqb c space) _ _ _ kept_size refl

  pub end_size : length (end_tones line tones) ≡ length tones
  unfolding end_tones
  end_size = either_size (is_blank line) _ _ _ refl kept_size

pub read_size : (marks : Bool) (cs : List ℕ) (line : Line) (tones : List ℕ) → length (read_tones marks line cs tones) ≡ length tones
unfolding read_tones
read_size marks [] line tones = refl
read_size marks (c ∷ cs) line tones = read_size marks cs (next_line marks line c) (next_tones line c tones) ∙ next_size line tones c
