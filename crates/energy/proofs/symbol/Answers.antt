use mathlib.Core.Path.{◌∙◌, ap}
use mathlib.Core.List.{List}
use mathlib.Core.Logic.{⊎_elim}
use Prim.Native.Nat.{◌<◌}
use borrow.Author.Tests.{eq-eqb, ne_eqb}
use Rattle.lists.specs.Lists.{num}
use Rattle.lists.proofs.Tables.{tab_at}
use Rattle.chain.specs.Tables.{symbol_of}
use Rattle.block_decoder.specs.Internal.{seen_symbol}
use Rattle.energy.proofs.symbol.Goals as goal
use Rattle.energy.proofs.symbol.Goals.{Else-tone-eq-MISSING}

-- a tone that is not missing has an entry
below : (c : Else-tone-eq-MISSING) → c.args.tone < 256
below c = ⊎_elim (λ l. l) (λ e. absurd (c.if-tone-eq-MISSING.false e)) c.requires.1

pub bounds-table-from : goal.bounds-table-from
bounds-table-from c = rw c.from.ensures (below (goal.at.bounds-table-from c).Else-tone-eq-MISSING)

pub returns-then-tone-eq-MISSING : goal.returns-then-tone-eq-MISSING
unfolding seen_symbol
returns-then-tone-eq-MISSING c = rw (eq-eqb _ _ c.if-tone-eq-MISSING.true)

pub returns-else-tone-eq-MISSING : goal.returns-else-tone-eq-MISSING
unfolding seen_symbol
returns-else-tone-eq-MISSING c =
    rw (ne_eqb _ _ c.if-tone-eq-MISSING.false, c.from.ensures) (ap (λ (x : List _). num x c.args.tone) c.requires.0 ∙ tab_at symbol_of 0 256 c.args.tone (below (goal.at.returns-else-tone-eq-MISSING c).Else-tone-eq-MISSING))
