use mathlib.Core.Path.{◌≡◌, sym, ◌∙◌, ap}
use mathlib.Core.Bool.{true, false}
use mathlib.Core.List.{List}
use Prim.Native.Nat.{ℕ, ◌<◌, ◌≤◌, ◌^◌}
use lib.ListN.{length}
use borrow.Author.Tests.{lt-ltb, le-ltb}
use Rattle.lists.proofs.Found.{found_some, found_none}
use Rattle.refusal.specs.Refused.{number_of}
use Rattle.refusal.specs.Checks.{is_mode}
use Rattle.refusal.specs.declared.Reason.{Reason}
use Rattle.refusal.proofs.Limits.{mode_tones}
use Rattle.tone_range.specs.Range.{first_bad_tone, looked_at, range_of}
use Rattle.tone_range.proofs.Looks.{bad_found, looked_found}
use Rattle.olivia.specs.Told.{looked_answer, looked_told}
use Rattle.olivia.proofs.olivia_check_tones.Goals as goal
use Rattle.olivia.proofs.olivia_check_tones.Goals.{After-check-range}

-- ---- each answer, under the checks that lead to it

module _ (b : ℕ) (tones : List ℕ) where
  no_mode : (number : ℕ) → number ≡ number_of Reason.Mode → is_mode b ≡ false → looked_answer number 0 0 ≡ looked_told b tones
  unfolding looked_told number_of
  no_mode number p e = rw (p, e)

  module _ (mode : is_mode b ≡ true) (looked : ℕ) (k : looked ≡ looked_at (2 ^ b) tones) where
    bad_tone_lem : (number place : ℕ) → number ≡ number_of Reason.Tone → place ≡ first_bad_tone (2 ^ b) tones → first_bad_tone (2 ^ b) tones < length tones
        → looked_answer number place looked ≡ looked_told b tones
    unfolding looked_told number_of
    bad_tone_lem number place n p h = rw (n, p, k, mode, lt-ltb (first_bad_tone (2 ^ b) tones) (length tones) h)

    good_tones : length tones ≤ first_bad_tone (2 ^ b) tones → looked_answer 0 0 looked ≡ looked_told b tones
    unfolding looked_told
    good_tones h = rw (k, mode, le-ltb (first_bad_tone (2 ^ b) tones) (length tones) h)

-- ---- the calls

pub returns-then-not-is_mode : goal.returns-then-not-is_mode
returns-then-not-is_mode c =
    c.looked.ensures ∙ no_mode _ _ _ c.number.ensures (sym c.is_mode.ensures ∙ c.if-not-is_mode.true)

-- the range check is by the mode's count of tones
range : (c : After-check-range) → let a = c.args in c.check-range.result ≡ range_of (2 ^ a.mode) a.tones.now
range c =
    let a = c.args in
    c.check-range.ensures ∙ ap (λ (limit : ℕ). range_of limit a.tones.now) (c.tone_count.ensures ∙ mode_tones a.mode (sym c.is_mode.ensures ∙ c.if-not-is_mode.false))

pub returns-in-Some : goal.returns-in-Some
returns-in-Some c =
    let r = range (goal.at.returns-in-Some c).After-check-range in
    let known = found_some _ _ _ (sym (bad_found _ _ r) ∙ c.in-Some.is) in
    c.looked-in-Some.ensures
    ∙ bad_tone_lem _ _ (sym c.is_mode.ensures ∙ c.if-not-is_mode.false) _ (looked_found _ _ r) _ _ c.number-in-Some.ensures known.0 known.1

pub returns-in-None : goal.returns-in-None
returns-in-None c =
    let r = range (goal.at.returns-in-None c).After-check-range in
    c.looked-in-None.ensures
    ∙ good_tones _ _ (sym c.is_mode.ensures ∙ c.if-not-is_mode.false) _ (looked_found _ _ r) (found_none _ _ (sym (bad_found _ _ r) ∙ c.in-None.is))
