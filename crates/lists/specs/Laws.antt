-- The law of the vocabulary. It is the promise of the function of the same name in src/laws.rt.
use Rattle.std.specs.Prelude.{Bool, true, false, ◌≡◌, ℕ, ◌<◌, ◌≤◌}
use Rattle.lists.specs.Places.{first}

-- s is the lowest place below n at which p holds, or n if it holds at none
pub record IsFirst (p : ℕ → Bool) (n s : ℕ) : Type 0 where
  pub within : s ≤ n
  pub holds : s < n → p s ≡ true
  pub lowest : (k : ℕ) → k < s → p k ≡ false

-- `first` is that place, and nothing else is.
pub record FirstPlace : Type 0 where
  pub found : (p : ℕ → Bool) (n : ℕ) → IsFirst p n (first p n)
  pub only : (p : ℕ → Bool) (n s : ℕ) → IsFirst p n s → s ≡ first p n
