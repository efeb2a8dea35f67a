-- The law of reading. It is the promise of the function of the same name in src/laws.rt.
use Rattle.std.specs.Prelude.{Bool, true, List, ◌≡◌, ℕ, min, length, take}
use Rattle.lists.specs.Lists.{every}
use Rattle.reader_laws.specs.Input.{words, is_word, values_of}
use Rattle.reader.specs.Reader.{fresh, is_read, line_end, end_tones, read_line, read_tones}

-- reading a line byte by byte gives what is defined of the whole line: whether it holds words alone, their count up to 255, and their values
pub record Reading : Type 0 where
  pub readable : (marks : Bool) (line : List ℕ) → is_read (line_end (read_line marks fresh line)) ≡ every (is_word marks) (words line)
  pub count : (marks : Bool) (line : List ℕ)
      → every (is_word marks) (words line) ≡ true
      → (line_end (read_line marks fresh line)).count ≡ min (length (words line)) 255
  pub kept : (marks : Bool) (line tones : List ℕ)
      → length tones ≡ 256
      → every (is_word marks) (words line) ≡ true
      → take (line_end (read_line marks fresh line)).count (end_tones (read_line marks fresh line) (read_tones marks fresh line tones)) ≡ take 255 (values_of line)
