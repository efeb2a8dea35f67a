-- The decision on one character from its 64 correlations r: document 01, "Hearing a block", and order 5.
use Rattle.std.specs.Prelude.{Bool, true, false, cond, ℕ, zero, suc, ◌+◌, ◌-◌, ltb, ℤ, pos, negsuc, nat_abs}
use Rattle.decision.specs.declared.Character.{Character}

-- of word b and a higher-numbered word n, the one of greater magnitude; b where they are equal
unfoldable pub better : (ℕ → ℤ) → ℕ → ℕ → ℕ
better r b n = cond (ltb (nat_abs (r b)) (nat_abs (r n))) n b

-- of the words below n, the one of greatest magnitude, the lowest-numbered where several have it
unfoldable pub best : (ℕ → ℤ) → ℕ → ℕ
best r zero = 0
best r (suc n) = better r (best r n) n

-- the words other than w, in their order
unfoldable pub other : ℕ → ℕ → ℕ
other w k = cond (ltb k w) k (suc k)

-- the best of the other 63
unfoldable pub runner_up : (ℕ → ℤ) → ℕ → ℕ
runner_up r w = other w (best (λ k. r (other w k)) 63)

abbrev pub negative : ℤ → Bool
negative (pos n) = false
negative (negsuc n) = true

-- the code of a word: its number, plus 64 if its signs are turned
abbrev pub code_of : ℕ → Bool → ℕ
code_of word turned = cond turned (word + 64) word

-- word w as the decision, turned if its correlation is negative, and word v as its runner-up; the lead is the difference of their magnitudes
unfoldable pub decision_for : (ℕ → ℤ) → ℕ → ℕ → Character
decision_for r w v = record {
  code = code_of w (negative (r w));
  lead = nat_abs (r w) - nat_abs (r v);
  word = w;
  correlation = r w;
  next = v;
  next_correlation = r v;
}

-- the decision is for the best of the 64 words
unfoldable pub decision : (ℕ → ℤ) → Character
decision r = decision_for r (best r 64) (runner_up r (best r 64))

-- what stands where no character is decided
abbrev pub none : Character
none = record { code = 0; lead = 0; word = 0; correlation = pos 0; next = 0; next_correlation = pos 0 }
