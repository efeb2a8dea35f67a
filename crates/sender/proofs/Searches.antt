-- The library's search of the numbers below n for the first with p.
use Rattle.std.proofs.Common.{◌≡◌, sym, Bool, true, false, ℕ, ◌<◌, ◌≤◌, Option, Some, None, MatchOption, arith}
use Rattle.lists.specs.Places.{first}
use Rattle.lists.specs.Found.{found}
use Rattle.lists.proofs.Places.{first_none, first_at}
use Rattle.lists.proofs.Found.{found_at, found_past}

module _ (p : ℕ → Bool) (n : ℕ) where
  pub found_below : (r : Option ℕ)
      → MatchOption r ((k : ℕ) → 0 ≤ k → k < n → p k ≡ false)
      (λ i. (0 ≤ i) × (i < n) × (p i ≡ true) × ((k : ℕ) → 0 ≤ k → k < i → p k ≡ false))
      → r ≡ found n (first p n)
  found_below None none =
      let past : first p n ≡ n = first_none p n (λ k l. none k (omega arith) l) in
      sym (found_past n (first p n) (omega arith))
  found_below (Some i) at =
      let here : first p n ≡ i = first_at p n i at.1 at.2 (λ k l. at.3 k (omega arith) l) in
      rw here (sym (found_at n i at.1))
