-- What an answer of a check tells of the setting.
use Rattle.std.proofs.Common.{◌≡◌, refl, Bool, true, false, cond, ℕ, Ok, Err}
use Rattle.refusal.specs.declared.Reason.{Reason}
use Rattle.refusal.specs.declared.Refusal.{Refusal}
use Rattle.refusal.specs.Refused.{refused_at}
use Rattle.refusal.specs.Checks.{is_mode, checked_mode, is_lead_at, checked_lead_at}

pub mode_passed : (b n : ℕ) → checked_mode b ≡ Ok n → (n ≡ b) × (is_mode b ≡ true)
unfolding checked_mode
mode_passed b n e = by (is_mode b) refl e
  where
    by : (t : Bool) → is_mode b ≡ t → cond t (Ok b) (Err (refused_at Reason.Mode 0)) ≡ Ok n → (n ≡ b) × (is_mode b ≡ true)
    by true h f = (cc, h)
    by false h f = absurd cc

pub mode_refused : (b : ℕ) (r : Refusal) → checked_mode b ≡ Err r → (r ≡ refused_at Reason.Mode 0) × (is_mode b ≡ false)
unfolding checked_mode
mode_refused b r e = by (is_mode b) refl e
  where
    by : (t : Bool) → is_mode b ≡ t → cond t (Ok b) (Err (refused_at Reason.Mode 0)) ≡ Err r → (r ≡ refused_at Reason.Mode 0) × (is_mode b ≡ false)
    by true h f = absurd cc
    by false h f = (cc, h)

pub lead_passed : (N m : ℕ) (u : Unit {0}) → checked_lead_at N m ≡ Ok u → is_lead_at N m ≡ true
unfolding checked_lead_at
lead_passed N m u e = by (is_lead_at N m) refl e
  where
    by : (t : Bool) → is_lead_at N m ≡ t → cond t (Ok (tt {0})) (Err (refused_at Reason.LeastLead 0)) ≡ Ok u → is_lead_at N m ≡ true
    by true h f = h
    by false h f = absurd cc

pub lead_refused : (N m : ℕ) (r : Refusal) → checked_lead_at N m ≡ Err r → (r ≡ refused_at Reason.LeastLead 0) × (is_lead_at N m ≡ false)
unfolding checked_lead_at
lead_refused N m r e = by (is_lead_at N m) refl e
  where
    by : (t : Bool) → is_lead_at N m ≡ t → cond t (Ok (tt {0})) (Err (refused_at Reason.LeastLead 0)) ≡ Err r
        → (r ≡ refused_at Reason.LeastLead 0) × (is_lead_at N m ≡ false)
    by true h f = absurd cc
    by false h f = (cc, h)
