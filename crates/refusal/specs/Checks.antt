-- Limits that several entries check: document 01, "Who can cause a refusal".
use Rattle.std.specs.Prelude.{Bool, true, cond, ◌&&◌, ◌≡◌, ℕ, ◌*◌, leb, Ok, Err}
use Rattle.refusal.specs.declared.Reason.{Reason}
use Rattle.refusal.specs.Refused.{Answered, refused_at}

abbrev pub within : ℕ → ℕ → ℕ → Bool
within low high n = leb low n && leb n high

abbrev pub is_mode : ℕ → Bool
is_mode b = within 1 8 b

-- a set lead where no weight is above N, and so no lead above 64 * N: document 02, order 3
abbrev pub is_lead_at : ℕ → ℕ → Bool
is_lead_at N m = within 1 (64 * N) m

abbrev pub is_lead : ℕ → Bool
is_lead m = is_lead_at 1 m

-- ---- the same as answers

unfoldable pub checked_mode : ℕ → Answered ℕ
checked_mode b = cond (is_mode b) (Ok b) (Err (refused_at Reason.Mode 0))

unfoldable pub checked_lead_at : ℕ → ℕ → Answered Unit
checked_lead_at N m = cond (is_lead_at N m) (Ok tt) (Err (refused_at Reason.LeastLead 0))

abbrev pub checked_lead : ℕ → Answered Unit
checked_lead m = checked_lead_at 1 m

-- ---- what they leave known

-- a mode and a set lead within their limits
pub record IsSet (b m : ℕ) : Type 0 where
  pub mode : is_mode b ≡ true
  pub lead : is_lead m ≡ true
