-- A row set out again and again: written one time more over a list, and cut off.
use mathlib.Core.Path.{◌≡◌, sym, ◌∙◌, ap}
use mathlib.Core.List.{List, ◌++◌}
use Prim.Native.Nat.{ℕ, ◌+◌, ◌-◌, ◌<◌, ◌≤◌, ◌%◌}
use native.Mathlib.Nat.{mod-add-mod, mod-eq_of_lt}
use native.Mathlib.Omega.{arith}
use lib.ListN.{length, take}
use lib.Seq.{take_at, take-append-add, take-append-le}
use Rattle.lists.specs.Lists.{tab, num}
use Rattle.lists.proofs.Tables.{tab_length, tab_add, tab_ext, tab_take}
use Rattle.chain.specs.Internal.{again}

module _ (step : ℕ) (row : List ℕ) where
  again_length : (n : ℕ) → length (again step row n) ≡ n
  unfolding again
  again_length n = tab_length (λ i. num row (i % step)) n

  -- the row one time more
  again_more : (at : ℕ) → at % step ≡ 0 → step ≤ length row → again step row at ++ take step row ≡ again step row (at + step)
  unfolding again
  again_more at whole h =
      ap (λ (x : List ℕ). again step row at ++ x) (sym (tab_take 0 row step h) ∙ tab_ext 0 (num row) (λ q. num row ((at + q) % step)) step here)
      ∙ sym (tab_add (λ i. num row (i % step)) at step)
    where
      here : (q : ℕ) → q < step → num row q ≡ num row ((at + q) % step)
      here q l =
          let e : q ≡ at % step + q = omega arith in
          ap (num row) (sym (mod-eq_of_lt l) ∙ ap (λ (n : ℕ). n % step) e ∙ mod-add-mod at step q)

  -- the same as it is written: all eight of the row, before what follows them
  pub again_written : (at : ℕ) (values rest : List ℕ) → at % step ≡ 0 → length row ≡ 8 → step ≤ 8
      → take at values ≡ again step row at → take (at + step) (take at values ++ (row ++ rest)) ≡ again step row (at + step)
  again_written at values rest whole size inside same =
      let within : step ≤ length row = omega arith in
      rw same
      (ap (λ (n : ℕ). take (n + step) (again step row at ++ (row ++ rest))) (sym (again_length at))
      ∙ take-append-add (again step row at) (row ++ rest) step
      ∙ ap (λ (x : List ℕ). again step row at ++ x) (take-append-le step row rest within)
      ∙ again_more at whole within)

  pub again_cut : (n at : ℕ) → n ≤ at → take n (again step row at) ≡ again step row n
  unfolding again
  again_cut n at h =
      let e : at ≡ n + (at - n) = omega arith in
      rw (e, tab_add (λ i. num row (i % step)) n (at - n)) (take_at (tab (λ i. num row (i % step)) n) _ n (tab_length _ n))
