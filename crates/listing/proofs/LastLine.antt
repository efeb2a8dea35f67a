-- The last line of an input, with nothing in it or without its line feed, and what is said after it.
use mathlib.Core.Path.{◌≡◌}
use mathlib.Core.Bool.{true, false}
use mathlib.Core.List.{List, []}
use Prim.Native.Nat.{ℕ}
use Rattle.reader.specs.Reader.{is_blank}
use Rattle.stages.specs.declared.Listing.{Listing}
use Rattle.stages.specs.Stages.{ending_text}
use Rattle.judge.specs.Judged.{closed}
use Rattle.listing.specs.Steps.{last_line}

module _ (listing : Listing) (tones : List ℕ) where
  pub nothing_last : is_blank listing.line ≡ true → last_line listing tones ≡ record { text = []; next = listing }
  unfolding last_line
  nothing_last e = rw e

  pub closes_last : is_blank listing.line ≡ false → last_line listing tones ≡ closed listing tones
  unfolding last_line
  closes_last e = rw e

abbrev pub end_said : Listing → List ℕ
end_said listing = ending_text listing.stage listing.blocks
