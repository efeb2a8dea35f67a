use mathlib.Core.Path.{◌≡◌}
use Rattle.lists.specs.Lists.{over}
use Rattle.block_decoder.specs.Decoding.{codes_of}
use Rattle.message_decoder.specs.Decoding.{heard_characters}
use Rattle.message_decoder.proofs.Hearing.{Clear}
use Rattle.message_decoder.proofs.collect.Given as goal

abbrev pub invariant-loop-k : goal.invariant-loop-k
invariant-loop-k l = record {
  codes : l.codes ≡ over (codes_of (heard_characters l.mode l.tones l.k)) l.initial.codes;
  clear : Clear l.mode l.least_lead l.tones l.k;
}
