use mathlib.Core.Path.{◌≡◌}
use Prim.Native.Nat.{◌+◌}
use native.Mathlib.Omega.{arith}
use lib.ListN.{length}
use Rattle.checked_block.proofs.CheckedCounts.{symbols_length, put_symbol}
use Rattle.checked_block.proofs.put_row.Goals as goal
use Rattle.checked_block.proofs.put_row.Goals.{Start, At-loop-t}

pub loop-t-init : goal.loop-t-init
loop-t-init c = c.requires.2

length_kept : (l : At-loop-t) → length l.loop-t.symbols ≡ 64
length_kept l = rw l.loop-t.invariant (symbols_length l.args.tones.now l.loop-t.t (omega (arith, l.requires.1)))

pub bounds-symbols-t : goal.bounds-symbols-t
bounds-symbols-t c = omega (arith, length_kept (goal.at.bounds-symbols-t c).At-loop-t, c.requires.1)

pub loop-t-preserved : goal.loop-t-preserved
loop-t-preserved c =
    let l = c.loop-t in
    rw c.from.ensures (put_symbol c.args.tones.now l.t l.symbols c.args.table.now (omega (arith, c.requires.1)) l.invariant c.requires.0)

pub returns : goal.returns
returns c =
    let l = c.loop-t in
    let done : l.t ≡ c.args.from + 16 = omega arith in
    rw done at l.invariant
