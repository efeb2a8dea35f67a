use mathlib.Core.Path.{◌≡◌, refl, sym, ◌∙◌, ap}
use Prim.Native.Nat.{ℕ}
use native.Mathlib.Omega.{arith}
use lib.ListN.{length}
use Rattle.lists.specs.Lists.{tab}
use Rattle.refusal.proofs.Limits.{mode_range}
use Rattle.chain.specs.Chain.{symbol_at}
use Rattle.chain.specs.Tables.{place_value}
use Rattle.chain.proofs.Values.{mode_values}
use Rattle.block_encoder.proofs.PartSymbols.{part_none, part_length, part_all}
use Rattle.block_encoder.proofs.symbols.of_codes.Goals as goal

pub loop-q-init : goal.loop-q-init
loop-q-init c = (refl, part_none _)

pub add_character-requires : goal.add_character-requires
add_character-requires c =
    let l = c.loop-q in
    let values = c.values-values.ensures ∙ mode_values c.args.mode c.requires.0 ∙ ap (λ (b : ℕ). tab (place_value b) 72) (sym c.requires.1) in record { codes = (omega arith, omega (arith, c.requires.1, (mode_range c.args.mode c.requires.0).1)); tables = (c.keys-keys.ensures, values); sums = l.invariant.1 }

pub loop-q-preserved : goal.loop-q-preserved
loop-q-preserved c =
    let sums = c.add_character.ensures in
    (ap length sums ∙ part_length _ _, sums)

pub returns : goal.returns
returns c =
    let l = c.loop-q in
    let done : l.q ≡ length c.args.codes.now = omega arith in
    rw done at l.invariant.1 ∙ part_all _ ∙ ap (λ (b : ℕ). tab (symbol_at b c.args.codes.now) 64) c.requires.1
