-- How far the counts of a character are from those of the word that was sent.
use Rattle.std.specs.Prelude.{Bool, ℕ, ℤ, pos, nat_abs, ◌-ℤ◌}
use Rattle.lists.specs.Sums.{total}
use Rattle.walsh.specs.Words.{minus, signed}

-- what word c counts at t when it is sent at amplitude N, with every sign turned if s is minus
unfoldable pub sent : ℕ → ℕ → Bool → ℕ → ℤ
sent N c s t = signed (minus c t) (signed s (pos N))

-- the sum over t of the distance between what is heard and what was sent
unfoldable pub damage : ℕ → ℕ → Bool → (ℕ → ℤ) → ℕ
damage N c s h = total 64 (λ t. nat_abs (h t -ℤ sent N c s t))
