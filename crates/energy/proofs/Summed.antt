-- What is summed by the symbols seen and the weights that count is what the tones and weights heard have.
use mathlib.Core.Path.{◌≡◌, refl, ◌∙◌, ap}
use mathlib.Core.Bool.{Bool, true, false, cond}
use mathlib.Core.List.{List}
use Prim.Native.Nat.{ℕ, ◌*◌, ◌<◌, ◌≤◌}
use native.Mathlib.Omega.{arith}
use lib.Dec.{eqb}
use lib.ListN.{replicate}
use Rattle.lists.specs.Lists.{tab, num, over}
use Rattle.lists.specs.Sums.{total}
use Rattle.lists.proofs.Sums.{total_ext}
use Rattle.lists.proofs.Tables.{tab_at, tab_ext}
use Rattle.refusal.specs.Checks.{is_mode}
use Rattle.walsh.proofs.Energies.{counts_energy}
use Rattle.chain.specs.Chain.{missing_mark}
use Rattle.chain.specs.Tables.{place_value}
use Rattle.characters.specs.Symbols.{symbol_energy, symbol_energies}
use Rattle.weight_range.specs.Range.{HasWeights}
use Rattle.block_decoder.specs.Decoding.{heard_weight, heard_weights}
use Rattle.block_decoder.specs.Internal.{seen_to}
use Rattle.block_decoder.proofs.Seen.{seen_count}
use Rattle.energy.specs.Energies.{energy_at, squared_weight, total_of, summed}
use Rattle.energy.specs.Internal.{heard_of}
use Rattle.energy.specs.declared.Heard.{Heard}
use Rattle.energy.specs.declared.Energies.{Energies}
use Rattle.std.proofs.Common.{Ok}

module _ (tones weights : List ℕ) where
  weight_at : (t : ℕ) → t < 64 → num (heard_weights tones weights) t ≡ heard_weight (num tones t) (num weights t)
  unfolding heard_weights
  weight_at t l = tab_at (λ k. heard_weight (num tones k) (num weights k)) 0 64 t l

  weight_square : (t : ℕ) → t < 64 → num (heard_weights tones weights) t * num (heard_weights tones weights) t ≡ squared_weight tones weights t
  unfolding squared_weight heard_weight
  weight_square t l = rw (weight_at t l) (by (eqb (num tones t) missing_mark))
    where
      by : (s : Bool) → cond s 0 (num weights t) * cond s 0 (num weights t) ≡ cond s 0 (num weights t * num weights t)
      by true = refl
      by false = refl

  total_heard : 64 * total 64 (λ t. num (heard_weights tones weights) t * num (heard_weights tones weights) t) ≡ total_of tones weights
  unfolding total_of
  total_heard = ap (λ (n : ℕ). 64 * n) (total_ext 64 _ _ weight_square)

  pub weights_heard : {h : Heard} → h ≡ heard_of tones weights → h.weights ≡ heard_weights tones weights
  unfolding heard_of
  weights_heard e = ap (λ (x : Heard). x.weights) e

  module _ (w : HasWeights 15 weights) where
    pub weights_few : (t : ℕ) → t < 64 → num (heard_weights tones weights) t ≤ 15
    unfolding heard_weight
    weights_few t l = rw (weight_at t l) (by (eqb (num tones t) missing_mark))
      where
        by : (s : Bool) → cond s 0 (num weights t) ≤ 15
        by true = omega arith
        by false = w.each t l

    module _ (b : ℕ) (e : is_mode b ≡ true) (values : List ℕ) (v : values ≡ tab (place_value b) 72) where
      sums_heard : symbol_energies b values (seen_to tones 64) (heard_weights tones weights) ≡ tab (energy_at b tones weights) b
      unfolding symbol_energies symbol_energy energy_at
      sums_heard = rw e (tab_ext 0 _ _ b (λ q h. counts_energy _ _ (λ t l. seen_count tones weights w b e values v q t h l)))

      -- the answer by what is heard
      pub same_summed : (h : Heard) (n : ℕ) (sums : List ℕ) → h ≡ heard_of tones weights → n ≡ 64 * total 64 (λ t. num h.weights t * num h.weights t)
          → sums ≡ over (symbol_energies b values h.symbols h.weights) (replicate 8 0)
          → ◌≡◌ {A = Energies} (record { answer = Ok n; sums = sums }) (summed b tones weights)
      unfolding summed heard_of
      same_summed h n sums p f g =
          let a : n ≡ total_of tones weights = f ∙ rw p total_heard in
          let c : sums ≡ over (tab (energy_at b tones weights) b) (replicate 8 0) = g ∙ ap (λ (x : List ℕ). over x (replicate 8 0)) (rw p sums_heard) in
          λ i. record { answer = Ok (a i); sums = c i }
