use mathlib.Core.Path.{◌≡◌}
use lib.ListN.{length}
use Rattle.lists.specs.Lists.{tab, over}
use Rattle.chain.specs.Chain.{tone_at}
use Rattle.block_encoder.proofs.put_tones.Given as goal

abbrev pub invariant-loop-t : goal.invariant-loop-t
invariant-loop-t l =
    (length l.tones ≡ length l.initial.tones) × (l.tones ≡ over (tab (tone_at l.mode l.codes) l.t) l.initial.tones)
