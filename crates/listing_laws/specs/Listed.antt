-- Document 01, "The listing program": what it prints, whole, for the bytes of its input.
use Rattle.std.specs.Prelude.{cond, not, List, [], ◌∷◌, ◌++◌, ℕ, suc, ◌+◌}
use Rattle.lists.specs.Lists.{num}
use Rattle.reader_laws.specs.Input.{lines, is_readable_first, is_readable, values_of}
use Rattle.refusal.specs.Checks.{is_mode, is_lead}
use Rattle.refusal.specs.Refused.{refused_at}
use Rattle.block_decoder.specs.Decoding.{decode_block}
use Rattle.block_decoder.specs.declared.BlockDecoded.{BlockDecoded}
use Rattle.report.specs.Output.{heading, refused_text, unreadable_text, end_text}
use Rattle.block_report.specs.Lines.{block_text}
use Rattle.judge.specs.Judged.{goes_on}
use Rattle.refusal.specs.declared.Reason.{Reason}

-- hearing the tones of a line, with room for any block's codes
unfoldable pub block_heard : ℕ → ℕ → List ℕ → BlockDecoded
block_heard b m line = decode_block b m (values_of line) 8

-- from block k on, at line k + 2: readability of the whole line is judged first
unfoldable pub blocks_listed : ℕ → ℕ → ℕ → List (List ℕ) → List ℕ
blocks_listed b m k [] = end_text k
blocks_listed b m k (line ∷ rest) =
    cond (not (is_readable line)) (unreadable_text (k + 2))
    (block_text k (block_heard b m line) ++ cond (goes_on (block_heard b m line).answer) (blocks_listed b m (suc k) rest) [])

-- mode and set lead are checked even if no block follows
unfoldable pub checked_listed : ℕ → ℕ → List (List ℕ) → List ℕ
checked_listed b m rest =
    cond (not (is_mode b)) (refused_text (refused_at Reason.Mode 0))
    (cond (not (is_lead m)) (refused_text (refused_at Reason.LeastLead 0))
    (blocks_listed b m 0 rest))

-- an empty input is unreadable at line 1
unfoldable pub lines_listed : List (List ℕ) → List ℕ
lines_listed [] = unreadable_text 1
lines_listed (first ∷ rest) =
    cond (not (is_readable_first first)) (unreadable_text 1) (checked_listed (num (values_of first) 0) (num (values_of first) 1) rest)

unfoldable pub listed : List ℕ → List ℕ
listed input = heading ++ lines_listed (lines input)
