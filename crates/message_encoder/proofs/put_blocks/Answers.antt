use mathlib.Core.Path.{◌≡◌, refl, sym, ◌∙◌, ap}
use mathlib.Core.List.{List}
use Prim.Native.Nat.{ℕ, ◌+◌, ◌-◌, ◌*◌, ◌≤◌}
use native.Mathlib.Omega.{arith}
use lib.ListN.{take, drop}
use lib.Seq.{length-take-le}
use borrow.Author.Rules.{rules}
use Rattle.lists.specs.Lists.{joined, over}
use Rattle.refusal.proofs.Limits.{mode_range}
use Rattle.chain.specs.Chain.{tones_of}
use Rattle.block_encoder.specs.Encoding.{encoded_into}
use Rattle.message_encoder.specs.Encoding.{block_codes, sent_tones}
use Rattle.message_encoder.proofs.Parts.{part_length}
use Rattle.message_encoder.proofs.Counts.{place_room}
use Rattle.message_encoder.proofs.Sending.{block_written, codes_handed, blocks_more}
use Rattle.message_encoder.proofs.put_blocks.Goals as goal
use Rattle.message_encoder.proofs.put_blocks.Goals.{Start, In-loop-k, After-encode_block}

pub loop-k-init : goal.loop-k-init
unfolding sent_tones joined over
loop-k-init c = (refl, refl)

mode_known : (s : Start) → (1 ≤ s.args.mode) × (s.args.mode ≤ 8)
mode_known s = mode_range s.args.mode s.requires.mode

-- the block's codes lie within those of all blocks
room : (c : In-loop-k) → c.loop-k.k * c.args.mode + c.args.mode ≤ 2048
room c = omega (arith, place_room c.loop-k.k c.args.count c.args.mode c.loop-k-test.true, c.requires)

pub overflow_mul-k : goal.overflow_mul-k
overflow_mul-k c = omega (arith, room (goal.at.overflow_mul-k c).In-loop-k)

pub codes_from-codes-requires : goal.codes_from-codes-requires
codes_from-codes-requires c =
    ((mode_known (goal.at.codes_from-codes-requires c).Start).1, omega (arith, room (goal.at.codes_from-codes-requires c).In-loop-k))

pub slice_bounds-encode_block-end : goal.slice_bounds-encode_block-end
slice_bounds-encode_block-end c =
    sym (length-take-le c.args.mode _ (omega (arith, (mode_known (goal.at.slice_bounds-encode_block-end c).Start).1)))

-- the part lent holds the block's tones
put : (c : After-encode_block) → let a = c.args in c.encode_block.new.tones ≡ tones_of a.mode (block_codes a.mode a.text.now c.loop-k.k)
put c =
    let a = c.args in
    let k = c.loop-k.k in
    let codes : take a.mode c.codes_from-codes.result ≡ block_codes a.mode a.text.now k =
    ap (take a.mode) c.codes_from-codes.ensures ∙ codes_handed a.mode a.text.now k in
    let part = take (64 * k + 64 - 64 * k) (drop (64 * k) c.loop-k.tones) in
    c.encode_block.ensures.output
    ∙ ap (λ (x : List ℕ). encoded_into a.mode x part) codes
    ∙ block_written a.mode a.text.now k part c.requires.mode c.requires.codes (part_length c.loop-k.tones (64 * k) 64 (omega arith))

pub loop-k-preserved : goal.loop-k-preserved
loop-k-preserved c =
    let a = c.args in
    let l = c.loop-k in
    let block = put (goal.at.loop-k-preserved c).After-encode_block in
    (search rules, blocks_more a.mode a.text.now l.k l.tones c.encode_block.new.tones a.tones.now l.invariant.1 block)

pub returns : goal.returns
returns c =
    let e : c.loop-k.k ≡ c.args.count = omega arith in
    rw e at c.loop-k.invariant.1
