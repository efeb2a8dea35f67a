-- The law of damage. It is the promise of the function of the same name in src/laws.rt.
use Rattle.std.specs.Prelude.{◌≡◌, Bool, ◌≢◌, ℕ, ◌+◌, ◌*◌, ◌<◌, ◌≤◌, ℤ, pos, nat_abs, ◌-ℤ◌}
use Rattle.walsh.specs.Words.{signed, corr}
use Rattle.decision.specs.Decision.{code_of, decision}
use Rattle.damage.specs.Damage.{damage}

-- Word c was sent at amplitude N with sign s, and h was heard.
module _ (N c : ℕ) (s : Bool) (h : ℕ → ℤ) where
  -- No correlation moves by more than the damage.
  pub record Moved : Type 0 where
    pub other : (d : ℕ) → d < 64 → d ≢ c → nat_abs (corr h d) ≤ damage N c s h
    pub own : nat_abs (signed s (corr h c) -ℤ pos (64 * N)) ≤ damage N c s h

  -- Under the first bound the decision is what was sent, with a lead of at least m; under the second no other has such a lead.
  pub record Withstands (m : ℕ) : Type 0 where
    pub decided : 2 * damage N c s h + m ≤ 64 * N → ((decision (corr h)).code ≡ code_of c s) × (m ≤ (decision (corr h)).lead)
    pub no_other : 2 * damage N c s h < 64 * N + m → m ≤ (decision (corr h)).lead → (decision (corr h)).code ≡ code_of c s

pub record Damage : Type 0 where
  pub moved : (N c : ℕ) (s : Bool) (h : ℕ → ℤ) → c < 64 → Moved N c s h
  pub withstands : (N c : ℕ) (s : Bool) (h : ℕ → ℤ) (m : ℕ) → c < 64 → 1 ≤ m → Withstands N c s h m
