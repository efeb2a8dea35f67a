-- The characters of a block by the steps of the fast transform, which are quicker to compute than the sums.
use mathlib.Core.Path.{◌≡◌, sym, ◌∙◌, ap}
use mathlib.Core.List.{List}
use Prim.Native.Nat.{ℕ}
use lib.IntN.{ℤ, pos}
use Rattle.lists.specs.Lists.{tab, at}
use Rattle.lists.proofs.Tables.{tab_at, tab_ext}
use Rattle.walsh.specs.Words.{corr, correlations_of}
use Rattle.walsh.proofs.Sizes.{steps, six_steps}
use Rattle.decision.specs.Decision.{decision, none}
use Rattle.decision.specs.declared.Character.{Character}
use Rattle.decision.proofs.Choice.{decision_ext, counts_decide}
use Rattle.block_decoder.specs.Decoding.{symbols_of, count_in, weighted_at, weighted_of}

-- the 64 counts and the 64 correlations are lists, so that each is computed once
decision_by_steps : (h : ℕ → ℤ) → decision (corr h) ≡ decision (at (steps 6 (tab h 64)))
unfolding correlations_of
decision_by_steps h =
    let counts = tab h 64 in
    counts_decide h (at counts) (λ t l. sym (tab_at h (pos 0) 64 t l))
    ∙ decision_ext (corr (at counts)) (at (correlations_of (at counts))) (λ c l. sym (tab_at (corr (at counts)) (pos 0) 64 c l))
    ∙ ap (λ (x : List ℤ). decision (at x)) (sym (six_steps counts))

module _ (b : ℕ) (tones weights : List ℕ) where
  abbrev quick_at : ℕ → Character
  quick_at q = decision (at (steps 6 (tab (count_in b (symbols_of tones) weights q) 64)))

  abbrev pub quick_of : List Character
  quick_of = tab quick_at b

  pub characters_quick : weighted_of b tones weights ≡ quick_of
  unfolding weighted_at weighted_of
  characters_quick = tab_ext none (weighted_at b tones weights) quick_at b (λ q l. decision_by_steps (count_in b (symbols_of tones) weights q))
