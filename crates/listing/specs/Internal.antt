-- What only private contracts need: a line as far as it stands in a piece.
use Rattle.std.specs.Prelude.{List, ℕ, ◌+◌, length}
use Rattle.reader.specs.Reader.{read_line, read_tones, line_from}
use Rattle.stages.specs.declared.Listing.{Listing}
use Rattle.listing.specs.Steps.{takes_marks}
use Rattle.listing.specs.declared.Within.{Within}

-- a listing with more bytes of its line read
unfoldable pub line_read : Listing → List ℕ → Listing
line_read listing bytes =
    record {
      stage = listing.stage;
      mode = listing.mode;
      least_lead = listing.least_lead;
      blocks = listing.blocks;
      line = read_line (takes_marks listing.stage) listing.line bytes;
    }

unfoldable pub tones_read : Listing → List ℕ → List ℕ → List ℕ
tones_read listing bytes tones = read_tones (takes_marks listing.stage) listing.line bytes tones

-- the bytes from a place on, up to a line feed
unfoldable pub read_from : Listing → List ℕ → ℕ → Within
read_from listing bytes from = record { listing = line_read listing (line_from bytes from); at = from + length (line_from bytes from) }
