-- Document 02, order 1: the stretch that is handed back is a part of the caller's own run, and not a copy of it.
use Rattle.std.specs.Prelude.{List, ◌≡◌, ℕ, ◌+◌, ◌*◌, ◌≤◌, length, take, drop, Ok, Err}
use Rattle.std.specs.Borrow.{Bor}
use Rattle.finder.specs.Finding.{find_block, found_into}
use Rattle.finder.specs.declared.BlockFound.{BlockFound}
use Rattle.refusal.specs.Refused.{Answered}

-- the place of the stretch in a run, and its tones: 64 from the start found on, or none at the run's front
abbrev pub start_of : Answered ℕ → ℕ
start_of (Ok start) = start
start_of (Err r) = 0

abbrev pub count_of : Answered ℕ → ℕ
count_of (Ok start) = 64
count_of (Err r) = 0

-- stretch is that part of the run itself: its tones, and its place in memory, a tone being two bytes
pub record PartOf (run stretch : Bor (List ℕ)) (answer : Answered ℕ) : Type 0 where
  pub tones : stretch.now ≡ take (count_of answer) (drop (start_of answer) run.now)
  pub block : stretch.ref_ptr.0 ≡ run.ref_ptr.0
  pub place : stretch.ref_ptr.1 ≡ start_of answer * 2 + run.ref_ptr.1

-- a start that is told leaves 64 tones
pub record InRun (answer : Answered ℕ) (run : List ℕ) : Type 0 where
  pub fits : start_of answer + count_of answer ≤ length run

-- what finding promises: the answer, the stretch of the caller's own tones, and the output
pub record Finds (b m : ℕ) (run stretch : Bor (List ℕ)) (codes : List ℕ) (block : BlockFound) (codes' : List ℕ) : Type 0 where
  pub answer : block ≡ find_block b m run.now (length codes)
  pub part : PartOf run stretch block.answer
  pub output : codes' ≡ found_into b m run.now codes
