-- The 64 tones from a start on, and a window of what is kept for each tone of a run.
use mathlib.Core.Path.{◌≡◌, sym, ◌∙◌, ap}
use mathlib.Core.List.{List}
use Prim.Native.Nat.{ℕ, ◌+◌, ◌<◌, ◌≤◌}
use native.Mathlib.Omega.{arith}
use lib.ListN.{length, drop, length-take, length-drop}
use lib.Seq.{get_or-take, get_or-drop}
use Rattle.lists.specs.Lists.{tab, num, over}
use Rattle.lists.proofs.Fronts.{over_tab_at}
use Rattle.lists.proofs.Tables.{tab_ext}
use Rattle.search.specs.Starts.{stretch_at}

module _ (run : List ℕ) (start : ℕ) where
  pub stretch_tone : (t : ℕ) → t < 64 → num (stretch_at run start) t ≡ num run (start + t)
  unfolding stretch_at
  stretch_tone t h = get_or-take 64 (drop start run) t 0 h ∙ get_or-drop start run t 0

  module _ (inside : start + 64 ≤ length run) where
    pub stretch_length : length (stretch_at run start) ≡ 64
    unfolding stretch_at
    stretch_length = simp (length-take, length-drop) (omega arith)

    -- g of each tone is kept at the front of a list
    pub window_kept : (g : ℕ → ℕ) (kept rest : List ℕ) → kept ≡ over (tab (λ t. g (num run t)) (length run)) rest
        → tab (λ t. num kept (start + t)) 64 ≡ tab (λ t. g (num (stretch_at run start) t)) 64
    window_kept g kept rest e =
        tab_ext 0 _ _ 64 (λ t l. rw e (over_tab_at (λ k. g (num run k)) 0 (length run) rest (start + t) (omega arith)) ∙ ap g (sym (stretch_tone t l)))
