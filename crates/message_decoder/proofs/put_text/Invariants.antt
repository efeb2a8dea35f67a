use Rattle.std.proofs.Common.{◌≡◌, length}
use Rattle.lists.specs.Lists.{tab, num, over}
use Rattle.message_decoder.proofs.put_text.Given as goal

abbrev pub invariant-loop-i : goal.invariant-loop-i
invariant-loop-i l = (length l.text ≡ length l.initial.text) × (l.text ≡ over (tab (num l.codes) l.i) l.initial.text)
