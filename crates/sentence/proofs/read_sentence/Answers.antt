use Rattle.std.proofs.Common.{◌∙◌, ap, List}
use Rattle.sentence.specs.Sentences.{Row}
use Rattle.sentence.specs.Condition.{are_sound}
use Rattle.sentence.specs.Reading.{read_from, read_sentence}
use Rattle.sentence.proofs.Soundness.{sound}
use Rattle.sentence.proofs.read_sentence.Goals as goal

pub read-requires : goal.read-requires
read-requires c = ap are_sound c.table.ensures ∙ sound

pub returns : goal.returns
unfolding read_sentence
returns c = c.read.ensures ∙ ap (λ (l : List Row). read_from l 0 c.args.bytes.now) c.table.ensures
