use mathlib.Core.Path.{◌≡◌, refl, ◌∙◌, ap}
use mathlib.Core.List.{List}
use Prim.Native.Nat.{ℕ}
use native.Mathlib.Omega.{arith}
use lib.ListN.{length-set}
use Rattle.lists.specs.Lists.{num}
use Rattle.lists.proofs.Tables.{tab_at}
use Rattle.lists.proofs.Fronts.{over_start, over_set}
use Rattle.chain.specs.Chain.{symbol_at, gray, tone_at, tones_of}
use Rattle.block_encoder.proofs.put_tones.Goals as goal
use Rattle.block_encoder.proofs.put_tones.Goals.{In-loop-t}

pub loop-t-init : goal.loop-t-init
loop-t-init c = (refl, over_start _ _)

-- the symbol at t
symbol_at_lem : (c : In-loop-t) →
    let a = c.args in
    num c.of_codes-symbols.result c.loop-t.t ≡ symbol_at a.mode a.codes.now c.loop-t.t
symbol_at_lem c =
    let t = c.loop-t.t in
    ap (λ (x : List ℕ). num x t) c.of_codes-symbols.ensures ∙ tab_at _ 0 64 t c.loop-t-test.true

pub tone_of-requires : goal.tone_of-requires
tone_of-requires c = tt

pub loop-t-preserved : goal.loop-t-preserved
unfolding tone_at
loop-t-preserved c =
    let l = c.loop-t in (
      length-set l.tones l.t _ ∙ l.invariant.0,
      over_set 0 (tone_at c.args.mode c.args.codes.now) l.t c.args.tones.now l.tones _ (omega arith) l.invariant.1
          (c.tone_of.ensures ∙ ap gray (c.from.ensures ∙ symbol_at_lem (goal.at.loop-t-preserved c).In-loop-t)),
    )

pub returns : goal.returns
unfolding tones_of
returns c =
    let l = c.loop-t in
    let done : l.t ≡ 64 = omega arith in
    rw done at l.invariant.1
