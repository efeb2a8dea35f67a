use mathlib.Core.Path.{◌≡◌, ◌∙◌}
use Prim.Native.Nat.{◌%◌}
use borrow.Author.Tests.{eq-eqb}
use Rattle.message_encoder.specs.Blocks.{block_count}
use Rattle.message_encoder.proofs.Counts.{count_by_ceil}
use Rattle.message_decoder.proofs.is_whole.Goals as goal

pub returns-then-is_multiple_of : goal.returns-then-is_multiple_of
returns-then-is_multiple_of c =
    let a = c.args in
    let blocks : c.div_ceil.result ≡ block_count a.mode a.limit = c.div_ceil.ensures ∙ count_by_ceil a.mode a.limit c.requires.1 in
    let whole : a.count % 64 ≡ 0 = c.is_multiple_of.ensures.0 c.if-is_multiple_of.true in
    rw (blocks, eq-eqb (a.count % 64) 0 whole)
