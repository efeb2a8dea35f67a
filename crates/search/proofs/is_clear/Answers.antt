use native.Mathlib.Omega.{arith}
use Rattle.refusal.proofs.Limits.{mode_range}
use Rattle.search.proofs.Lasts.{clear_last}
use Rattle.search.proofs.is_clear.Goals as goal

pub overflow_sub-last : goal.overflow_sub-last
overflow_sub-last c = omega (arith, mode_range c.args.mode c.requires.mode)

pub bounds-characters-mode : goal.bounds-characters-mode
bounds-characters-mode c = omega (arith, mode_range c.args.mode c.requires.mode)

pub returns : goal.returns
returns c = clear_last _ _ _ _ _ _ c.requires c.decide-characters.ensures
