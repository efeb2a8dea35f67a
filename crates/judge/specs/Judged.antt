-- A line that was read to its end: what is printed of it, and how the listing goes on.
use Rattle.std.specs.Prelude.{ℕ, ◌+◌, ◌%◌, ◌^◌, Bool, true, cond, not, ◌&&◌, List, [], take, ◌==◌, Ok, Err}
use Rattle.lists.specs.Lists.{num}
use Rattle.reader.specs.declared.Line.{Line}
use Rattle.reader.specs.Reader.{is_read, line_end, end_tones}
use Rattle.refusal.specs.Checks.{is_mode, is_lead}
use Rattle.refusal.specs.Refused.{Answered, refused_at}
use Rattle.block_decoder.specs.Decoding.{decode_block}
use Rattle.block_decoder.specs.declared.BlockDecoded.{BlockDecoded}
use Rattle.report.specs.Output.{refused_text, unreadable_text}
use Rattle.block_report.specs.Lines.{is_unclear, block_text}
use Rattle.stages.specs.declared.Stage.{Stage}
use Rattle.stages.specs.declared.Stage.TheVariants.{Settings, Blocks, Stopped}
use Rattle.stages.specs.declared.Listing.{Listing}
use Rattle.stages.specs.Stages.{Said, hearing, stops}
use Rattle.refusal.specs.declared.Reason.{Reason}

-- mode and set lead of line 1
unfoldable pub checked_said : ℕ → ℕ → Said
checked_said b m =
    cond (not (is_mode b)) (stops (refused_text (refused_at Reason.Mode 0)))
    (cond (not (is_lead m)) (stops (refused_text (refused_at Reason.LeastLead 0)))
    (record { text = []; next = hearing b m 0 }))

unfoldable pub settings_said : Line → List ℕ → Said
settings_said line tones =
    cond (is_read line && line.count == 2) (checked_said (num tones 0) (num tones 1)) (stops (unreadable_text 1))

-- any refusal but 10, unclear, stops the listing
abbrev pub goes_on : Answered ℕ → Bool
goes_on (Ok n) = true
goes_on (Err r) = is_unclear r.reason

unfoldable pub decoded_said : ℕ → ℕ → ℕ → BlockDecoded → Said
decoded_said b m k d = cond (goes_on d.answer) (record { text = block_text k d; next = hearing b m ((k + 1) % 2 ^ 64) }) (stops (block_text k d))

-- readability of the whole line is judged first; counts go round at 2^64
unfoldable pub block_said : ℕ → ℕ → ℕ → Line → List ℕ → Said
block_said b m k line tones =
    cond (is_read line) (decoded_said b m k (decode_block b m (take line.count tones) 8)) (stops (unreadable_text ((k + 2) % 2 ^ 64)))

unfoldable pub judged : Stage → Listing → Line → List ℕ → Said
judged Settings listing line tones = settings_said line tones
judged Blocks listing line tones = block_said listing.mode listing.least_lead listing.blocks line tones
judged Stopped listing line tones = stops []

unfoldable pub closed : Listing → List ℕ → Said
closed listing tones = judged listing.stage listing (line_end listing.line) (end_tones listing.line tones)
