-- The states of a listing, and what is printed at its end.
use Rattle.std.specs.Prelude.{Bool, false, true, List, [], ℕ, length}
use Rattle.reader.specs.Reader.{fresh}
use Rattle.report.specs.Output.{unreadable_text, end_text, fitting}
use Rattle.stages.specs.declared.Stage.{Stage}
use Rattle.stages.specs.declared.Stage.TheVariants.{Settings, Blocks, Stopped}
use Rattle.stages.specs.declared.Listing.{Listing}
use Rattle.stages.specs.declared.Progress.{Progress}

-- what is printed, and the state after it
pub record Said : Type 0 where
  pub text : List ℕ
  pub next : Listing

-- what an entry answers of it
abbrev pub told : Said → Progress
told s = record { listing = s.next; written = length s.text }

-- and by a function whose output has room bytes
abbrev pub told_in : ℕ → Said → Progress
told_in room s = record { listing = s.next; written = length (fitting s.text room) }

-- nothing of a line is read
abbrev pub before_line : Stage → ℕ → ℕ → ℕ → Listing
before_line stage b m k = record { stage = stage; mode = b; least_lead = m; blocks = k; line = fresh }

abbrev pub begun : Listing
begun = before_line Settings 0 0 0

-- before the line of block k
abbrev pub hearing : ℕ → ℕ → ℕ → Listing
hearing b m k = before_line Blocks b m k

abbrev pub stopped : Listing
stopped = before_line Stopped 0 0 0

abbrev pub is_stopped : Stage → Bool
is_stopped Settings = false
is_stopped Blocks = false
is_stopped Stopped = true

-- the last text
abbrev pub stops : List ℕ → Said
stops text = record { text = text; next = stopped }

-- what is printed after the last line
unfoldable pub ending_text : Stage → ℕ → List ℕ
ending_text Settings k = unreadable_text 1
ending_text Blocks k = end_text k
ending_text Stopped k = []
