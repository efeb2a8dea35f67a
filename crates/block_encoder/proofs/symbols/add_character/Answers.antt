use mathlib.Core.Path.{◌≡◌, refl, ◌∙◌, ap}
use mathlib.Core.List.{List}
use Prim.Native.Nat.{ℕ, ◌+◌, ◌<◌}
use native.Mathlib.Omega.{arith}
use lib.ListN.{length, length-set}
use Rattle.lists.specs.Sums.{total}
use Rattle.lists.specs.Lists.{num}
use Rattle.lists.proofs.Tables.{tab_at}
use Rattle.lists.proofs.Fronts.{over_start, over_set, over_past, over_tab_whole}
use Rattle.chain.specs.Chain.{bit, key_bit, value_at}
use Rattle.chain.specs.Tables.{keys_at, place_value}
use Rattle.chain.proofs.Keys.{keys_bit}
use Rattle.block_encoder.specs.Internal.{part_symbols}
use Rattle.block_encoder.proofs.PartSymbols.{part_at, part_length, part_more, cond_difference, part_room}
use Rattle.block_encoder.proofs.symbols.add_character.Goals as goal
use Rattle.block_encoder.proofs.symbols.add_character.Goals.{In-loop-t}

pub loop-t-init : goal.loop-t-init
loop-t-init c =
    (ap length c.requires.sums ∙ part_length _ _, c.requires.sums ∙ over_start _ _)

pub bounds-symbols-t : goal.bounds-symbols-t
bounds-symbols-t c =
    let l = c.loop-t in
    omega (arith, l.invariant.0, c.loop-t-test.true)

-- symbol t as far as the characters before q go, and the value of the next one's place
sum_known : (c : In-loop-t) →
    let l = c.loop-t in
    let a = c.args in
    num l.symbols l.t ≡ total a.q (value_at (length a.codes.now) a.codes.now l.t)
sum_known c =
    let l = c.loop-t in
    let a = c.args in
    let here : l.t < 64 = c.loop-t-test.true in
    ap (λ (x : List ℕ). num x l.t) l.invariant.1
    ∙ over_past _ 0 l.t _ l.t (omega arith)
    ∙ part_at a.codes.now a.q l.t here

value_known : (c : In-loop-t) →
    let l = c.loop-t in
    let a = c.args in
    num a.values.now (a.q + l.t) ≡ place_value (length a.codes.now) (a.q + l.t)
value_known c =
    let l = c.loop-t in
    let a = c.args in
    ap (λ (x : List ℕ). num x (a.q + l.t)) c.requires.tables.1
    ∙ tab_at (place_value (length a.codes.now)) 0 72 (a.q + l.t) (omega (arith, c.requires.codes.0, c.requires.codes.1))

pub added-requires : goal.added-requires
added-requires c =
    let room = part_room c.args.codes.now c.loop-t.t c.args.q _ _ c.requires.codes.0 c.requires.codes.1 (sum_known (goal.at.added-requires c).In-loop-t) (value_known (goal.at.added-requires c).In-loop-t) in
    rw cond_difference (omega (arith, room))

pub bounds-symbols-t-in-loop-t : goal.bounds-symbols-t-in-loop-t
bounds-symbols-t-in-loop-t c =
    let l = c.loop-t in
    omega (arith, l.invariant.0, c.loop-t-test.true)

pub loop-t-preserved : goal.loop-t-preserved
loop-t-preserved c =
    let l = c.loop-t in
    let a = c.args in
    let here : l.t < 64 = c.loop-t-test.true in
    let key : bit (num a.keys.now l.t) a.q ≡ key_bit a.q l.t =
    ap (λ (x : List ℕ). bit (num x l.t) a.q) c.requires.tables.0
    ∙ ap (λ (k : ℕ). bit k a.q) (tab_at keys_at 0 64 l.t here)
    ∙ keys_bit l.t a.q (omega (arith, c.requires.codes.0, c.requires.codes.1)) in (
      length-set l.symbols l.t _ ∙ l.invariant.0,
      over_set 0 _ l.t (part_symbols a.codes.now a.q) l.symbols _ (rw (part_length a.codes.now a.q) here) l.invariant.1
          (part_more a.codes.now l.t a.q _ _ _ _ _ _ (sum_known (goal.at.loop-t-preserved c).In-loop-t) c.code_bit.ensures key refl (value_known (goal.at.loop-t-preserved c).In-loop-t) c.added.ensures),
    )

pub returns : goal.returns
unfolding part_symbols
returns c =
    let l = c.loop-t in
    let done : l.t ≡ 64 = omega arith in
    rw done at l.invariant.1 ∙ over_tab_whole _ 64 _ (rw part_length (omega arith))
