use mathlib.Core.Path.{◌≡◌}
use Prim.Native.Nat.{◌+◌}
use lib.ListN.{replicate}
use Rattle.lists.specs.Lists.{tab, num, over}
use Rattle.message_encoder.proofs.codes_from.Given as goal

abbrev pub invariant-loop-q : goal.invariant-loop-q
invariant-loop-q l = l.codes ≡ over (tab (λ k. num l.text (l.at + k)) l.q) (replicate 8 0)
