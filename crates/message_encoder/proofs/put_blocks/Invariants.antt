use mathlib.Core.Path.{◌≡◌}
use lib.ListN.{length}
use Rattle.lists.specs.Lists.{over}
use Rattle.message_encoder.specs.Encoding.{sent_tones}
use Rattle.message_encoder.proofs.put_blocks.Given as goal

abbrev pub invariant-loop-k : goal.invariant-loop-k
invariant-loop-k l = (length l.tones ≡ length l.initial.tones) × (l.tones ≡ over (sent_tones l.mode l.text l.k) l.initial.tones)
