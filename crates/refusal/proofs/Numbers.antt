-- A reason is that of its number, so no two have one number.
use Rattle.std.proofs.Common.{◌≡◌, refl, sym, ◌∙◌, ap, Bool, true, false, ℕ, ◌+◌, ◌-◌, ◌<◌, get_or, arith}
use Rattle.std.proofs.lemmas.List.{get_or-map}
use Rattle.std.proofs.lemmas.List.FromFn.{get_or-range_with_len}
use Rattle.std.proofs.Math.Bool.{Bool-set}
use Rattle.refusal.specs.declared.Reason.{Reason}
use Rattle.refusal.specs.Refused.{number_of}
use Rattle.refusal.specs.Checks.{within}
use Rattle.refusal.specs.Reasons.{given, reason_in, reason_of}
use Rattle.refusal.proofs.Limits.{within_range}

reason_back : (r : Reason) → reason_of (number_of r) ≡ r
unfolding number_of given reason_in reason_of
reason_back Reason.Mode = refl
reason_back Reason.LeastLead = refl
reason_back Reason.Width = refl
reason_back Reason.Centre = refl
reason_back Reason.CodeCount = refl
reason_back Reason.Code = refl
reason_back Reason.ToneCount = refl
reason_back Reason.Tone = refl
reason_back Reason.Room = refl
reason_back Reason.Unclear = refl
reason_back Reason.Zero = refl
reason_back Reason.TooLong = refl
reason_back Reason.NotFound = refl
reason_back Reason.Weight = refl
reason_back Reason.NotFinite = refl
reason_back Reason.OutsideBand = refl
reason_back Reason.Depot = refl
reason_back Reason.DepotFull = refl
reason_back Reason.AllFull = refl
reason_back Reason.Sentence = refl
reason_back (Reason.Other u) = by (within 1 20 u.number) refl u.unused
  where
    by : (t : Bool) (h : within 1 20 u.number ≡ t) → t ≡ false → reason_in u.number t h ≡ Reason.Other u
    by true h f = absurd cc
    by false h f = λ i. Reason.Other (record { number = u.number; unused = Bool-set _ false h u.unused i })

pub reason_is : (r : Reason) (n : ℕ) → number_of r ≡ n → r ≡ reason_of n
reason_is r n e = sym (reason_back r) ∙ ap reason_of e

pub reason_unique : (a b : Reason) → number_of a ≡ number_of b → a ≡ b
reason_unique a b e = reason_is a (number_of b) e ∙ reason_back b

-- ---- and a number is that of its reason

numbered_in : (i : ℕ) → i < 20 → number_of (get_or given i Reason.Mode) ≡ 1 + i
unfolding given number_of
numbered_in i h = sym (get_or-map number_of given i Reason.Mode 0 h) ∙ get_or-range_with_len 1 20 i 0 h

pub number_back : (n : ℕ) → number_of (reason_of n) ≡ n
unfolding number_of reason_in reason_of
number_back n = by (within 1 20 n) refl
  where
    by : (t : Bool) (h : within 1 20 n ≡ t) → number_of (reason_in n t h) ≡ n
    by true h = let r = within_range 1 20 n h in numbered_in (n - 1) (omega (arith, r.0, r.1)) ∙ omega (arith, r.0)
    by false h = refl
