-- Sums over places of numbers that differ at one place alone.
use mathlib.Core.Path.{◌≡◌, sym}
use Prim.Native.Nat.{ℕ, zero, suc, ◌+◌, ◌<◌}
use native.Mathlib.Decide.{ℕ_discrete}
use native.Mathlib.Omega.{arith}
use Rattle.lists.specs.Sums.{total}
use Rattle.lists.proofs.Sums.{total_ext}

pub total_one : (n k : ℕ) (f g : ℕ → ℕ) → k < n → ((i : ℕ) → (i ≡ k → ⊥) → f i ≡ g i) → total n f + g k ≡ total n g + f k
unfolding total
total_one zero k f g h same = absurd (omega arith)
total_one (suc n) k f g h same = by (ℕ_discrete k n) (λ l. total_one n k f g l same)
  where
    by : Dec (k ≡ n) → (k < n → total n f + g k ≡ total n g + f k) → total n f + f n + g k ≡ total n g + g n + f k
    by (yes e) rest =
        let t : total n f ≡ total n g = total_ext n f g (λ i l. same i (λ p. absurd (omega arith))) in
        rw (e, t) (omega arith)
    by (no ne) rest =
        let t : f n ≡ g n = same n (λ p. ne (sym p)) in
        omega (arith, rest (omega arith))
