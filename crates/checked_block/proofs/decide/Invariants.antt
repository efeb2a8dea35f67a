use mathlib.Core.Path.{◌≡◌}
use Prim.Native.Nat.{◌-◌}
use lib.Dec.{ltb}
use lib.ListN.{length}
use Rattle.lists.specs.Lists.{tab, over}
use Rattle.lists.specs.Places.{scan}
use Rattle.block_decoder.specs.Decoding.{lead_in}
use Rattle.block_decoder.specs.Internal.{code_in, first_unclear_in}
use Rattle.checked_block.proofs.decide.Given as goal

abbrev pub invariant-loop-q : goal.invariant-loop-q
invariant-loop-q l =
    scan (λ k. ltb (lead_in l.characters k) l.least_lead) l.q (l.mode - l.q) ≡ first_unclear_in l.mode l.least_lead l.characters

abbrev pub invariant-loop-q-2 : goal.invariant-loop-q-2
invariant-loop-q-2 l =
    (length l.codes ≡ length l.initial.codes) × (l.codes ≡ over (tab (code_in l.characters) l.q) l.initial.codes)
