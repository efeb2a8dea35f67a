-- The reference butterfly, by which a sender makes a word: document 000, 3.5, `ifwht`. A receiver's is `walsh/specs/Transform`.
use Rattle.std.specs.Prelude.{cond, ℕ, zero, suc, ◌+◌, ◌-◌, ◌/◌, ◌^◌, eqb, ℤ, pos, ◌+ℤ◌, ◌-ℤ◌}
use Rattle.walsh.specs.Words.{odd}

-- pairs at distance s, of which place i is the second if i / s is odd: the place of the first gets first minus second, that of the second
-- gets first plus second
unfoldable pub reference : ℕ → (ℕ → ℤ) → ℕ → ℤ
reference s x i = cond (odd (i / s)) (x (i - s) +ℤ x i) (x i -ℤ x (i + s))

-- k of them, at the distances 2 ^ (k - 1), .., 2, 1; six begin at 32
unfoldable pub references : ℕ → (ℕ → ℤ) → ℕ → ℤ
references zero x = x
references (suc k) x = references k (reference (2 ^ k) x)

-- y at place c and 0 elsewhere
unfoldable pub single : ℕ → ℤ → ℕ → ℤ
single c y i = cond (eqb i c) y (pos 0)
