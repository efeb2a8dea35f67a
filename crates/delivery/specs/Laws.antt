-- The laws of a delivery. Each is the promise of the function of the same name in src/laws.rt.
use Rattle.std.specs.Prelude.{◌≡◌, List, ◌⊎◌, ◌≢◌, ℕ, ◌+◌, ◌-◌, ◌<◌, ◌≤◌, length, Ok, Err}
use Rattle.lists.specs.Lists.{num}
use Rattle.refusal.specs.Refused.{refused_at}
use Rattle.delivery.specs.Delivery.{text_end, delivery}
use Rattle.refusal.specs.declared.Reason.{Reason}

-- n is the place after the last nonzero code, or 0: a nonzero code stands just before n, and only zeros from n on
pub record IsEnd (codes : List ℕ) (n : ℕ) : Type 0 where
  pub last : (n ≡ 0) ⊎ (num codes (n - 1) ≢ 0)
  pub zeros : (i : ℕ) → n ≤ i → i < length codes → num codes i ≡ 0

-- `text_end` is that place, and nothing else is.
pub record TextEnd : Type 0 where
  pub found : (codes : List ℕ) → IsEnd codes (text_end codes)
  pub only : (codes : List ℕ) (n : ℕ) → IsEnd codes n → n ≡ text_end codes

-- no 0 stands before place n
abbrev pub NoZero : List ℕ → ℕ → Type 0
NoZero codes n = (i : ℕ) → i < n → num codes i ≢ 0

-- Codes whose text ends at n are refused by 11 at the first 0 before n; if there is none and at least b codes stand from n on, by 11 at n; if
-- not, and n is over the limit, by 12; else they deliver a text of n codes.
pub record Delivers (limit b : ℕ) (codes : List ℕ) (n : ℕ) : Type 0 where
  pub zero : (i : ℕ) → i < n → num codes i ≡ 0 → NoZero codes i → delivery limit b codes ≡ Err (refused_at Reason.Zero i)
  pub filling : NoZero codes n → n + b ≤ length codes → delivery limit b codes ≡ Err (refused_at Reason.Zero n)
  pub too_long : NoZero codes n → length codes < n + b → limit < n → delivery limit b codes ≡ Err (refused_at Reason.TooLong limit)
  pub text : NoZero codes n → length codes < n + b → n ≤ limit → delivery limit b codes ≡ Ok n

pub record Answers : Type 0 where
  pub delivers : (limit b : ℕ) (codes : List ℕ) (n : ℕ) → IsEnd codes n → Delivers limit b codes n
