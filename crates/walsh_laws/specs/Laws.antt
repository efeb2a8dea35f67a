-- The laws of the Walsh words. Each is the promise of the function of the same name in src/laws.rt.
use Rattle.std.specs.Prelude.{◌≡◌, ◌≢◌, ℕ, ◌*◌, ◌<◌, ◌≤◌, ℤ, pos, nat_abs, ◌*ℤ◌}
use Rattle.lists.specs.Sums.{sum}
use Rattle.walsh.specs.Words.{minus, signed, corr}
use Rattle.walsh_laws.specs.Reference.{references, single}

-- Two words are orthogonal: any x with the signs of both adds up to 0, or to 64 times x if they are one word.
pub record Orthogonality : Type 0 where
  pub different : (c d : ℕ) (x : ℤ) → c < 64 → d < 64 → c ≢ d → sum 64 (λ t. signed (minus c t) (signed (minus d t) x)) ≡ pos 0
  pub same : (c : ℕ) (x : ℤ) → sum 64 (λ t. signed (minus c t) (signed (minus c t) x)) ≡ pos 64 *ℤ x

-- The words are those of the reference: from y at place c and 0 elsewhere, six butterflies give y with the signs of word c. With 1 that is
-- code c, with -1 code c + 64.
pub record Reference : Type 0 where
  pub word : (c t : ℕ) (y : ℤ) → c < 64 → t < 64 → references 6 (single c y) t ≡ signed (minus c t) y

-- Counts of at most N in magnitude give correlations of at most 64 × N.
pub record Range : Type 0 where
  pub within : (N : ℕ) (h : ℕ → ℤ) (c : ℕ) → ((t : ℕ) → t < 64 → nat_abs (h t) ≤ N) → nat_abs (corr h c) ≤ 64 * N
