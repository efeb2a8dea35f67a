use mathlib.Core.Path.{◌≡◌}
use lib.ListN.{length}
use Rattle.lists.specs.Lists.{tab, over}
use Rattle.block_decoder.specs.Internal.{code_in}
use Rattle.block_decoder.proofs.decode.put_codes.Given as goal

abbrev pub invariant-loop-q : goal.invariant-loop-q
invariant-loop-q l =
    (length l.codes ≡ length l.initial.codes) × (l.codes ≡ over (tab (code_in l.characters) l.q) l.initial.codes)
