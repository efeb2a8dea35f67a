-- The rows are those of the list: computed.
use Rattle.std.proofs.Common.{refl}
use Rattle.lists.specs.Lists.{tab}
use Rattle.text.specs.Ascii.{ascii}
use Rattle.refusal.specs.Reasons.{given, reason_in, reason_of}
use Rattle.sentence.specs.Sentences.{row, sentences}
use Rattle.sentence.proofs.rows.table.Goals as goal

pub returns : goal.returns
unfolding tab ascii given reason_in reason_of row sentences
returns c = refl
