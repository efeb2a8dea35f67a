-- The reader's next state, by what was read: an equation for each answer of its functions.
use mathlib.Core.Path.{◌≡◌}
use mathlib.Core.Bool.{Bool, true, false, and-false}
use mathlib.Core.Logic.{◌⊎◌, inl, inr}
use mathlib.Core.List.{List}
use Prim.Native.Nat.{ℕ, ◌+◌, ◌-◌, ◌*◌, ◌<◌, min}
use native.Mathlib.Omega.{arith}
use borrow.Author.Tests.{lt-leb, eq-eqb, ne_eqb}
use lib.Dec.{eqb}
use lib.ListN.{set}
use Rattle.text.specs.Ascii.{line_feed, space, hyphen}
use Rattle.text.proofs.Digits.{digit_range}
use Rattle.text.specs.Decimal.{is_digit}
use Rattle.reader.specs.declared.Line.{Line}
use Rattle.reader.specs.declared.Word.{Word}
use Rattle.reader.specs.declared.Word.TheVariants.{Empty, Unreadable}
use Rattle.reader.specs.Reader.{number_with, with_digit, with_mark, next_word, is_whole, tone_in}
use Rattle.reader.specs.Reader.{word_end, kept_tone, next_line, next_tones, is_blank, line_end, end_tones}

-- ---- the next state

pub number_over : (v d : ℕ) → 65535 < 10 * v + d → number_with v d ≡ Unreadable
unfolding number_with
number_over v d h = rw (lt-leb (10 * v + d) 65535 h)

module _ (line : Line) (tones : List ℕ) where
  pub whole_ends : is_whole line.word ≡ true
      → (word_end line ≡ record { word = Empty; count = min (line.count + 1) 255 }) × (kept_tone line tones ≡ set tones line.count (tone_in line.word))
  unfolding word_end kept_tone
  whole_ends e = (rw e, rw e)

  pub other_ends : is_whole line.word ≡ false → (word_end line ≡ record { word = Unreadable; count = line.count }) × (kept_tone line tones ≡ tones)
  unfolding word_end kept_tone
  other_ends e = (rw e, rw e)

  pub begun_ends : is_blank line ≡ false → (line_end line ≡ word_end line) × (end_tones line tones ≡ kept_tone line tones)
  unfolding line_end end_tones
  begun_ends e = (rw e, rw e)

-- ---- a byte that is no line feed: the line with it, and the tones

module _ (marks : Bool) (line : Line) (c : ℕ) (tones : List ℕ) where
  abbrev Next : Line → List ℕ → Type 0
  Next next kept = (next ≡ next_line marks line c) × (kept ≡ next_tones line c tones)

  abbrev in_word : Word → Line
  in_word w = record { word = w; count = line.count }

  pub at_space : c ≡ space → Next (word_end line) (kept_tone line tones)
  unfolding next_line next_tones
  at_space e = (rw (eq-eqb c space e), rw (eq-eqb c space e))

  no_space : (w : Word) → (c ≡ space → ⊥) → w ≡ next_word marks line.word c → Next (in_word w) tones
  unfolding next_line next_tones
  no_space w n e = (rw (ne_eqb c space n, ← e), rw (ne_eqb c space n))

  pub at_digit : is_digit c ≡ true → Next (in_word (with_digit line.word (c - 48))) tones
  unfolding next_word
  at_digit e = no_space (with_digit line.word (c - 48)) (λ h. omega (arith, digit_range c e)) (rw e)

  pub at_mark : c ≡ hyphen → marks ≡ true → Next (in_word (with_mark line.word)) tones
  unfolding next_word
  at_mark e m = no_space (with_mark line.word) (λ h. omega arith) (rw (e, m))

  pub at_no_word : is_digit c ≡ false → (c ≡ space → ⊥) → (marks ≡ false) ⊎ (c ≡ hyphen → ⊥) → Next (in_word Unreadable) tones
  unfolding next_word
  at_no_word d n (inl e) = no_space Unreadable n (rw (d, e, and-false (eqb c hyphen)))
  at_no_word d n (inr e) = no_space Unreadable n (rw (d, ne_eqb c hyphen e))

pub digit_no_feed : (c : ℕ) → is_digit c ≡ true → c ≡ line_feed → ⊥
digit_no_feed c e h = omega (arith, digit_range c e)
