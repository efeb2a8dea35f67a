use Rattle.std.proofs.Common.{rules, ◌≡◌, sym, ◌∙◌, ap, ap₂, ℕ, List, ◌^◌, length, inl, inr, ⊎_elim, Result, Ok, Err, arith, eq-eqb, ne_eqb}
use native.Mathlib.Nat.{lt_of_lt_of_le}
use lib.Pow.{pow_mono}
use Rattle.lists.specs.Found.{found}
use Rattle.lists.proofs.Found.{found_some, found_none}
use Rattle.refusal.specs.Refused.{refused_at}
use Rattle.refusal.specs.declared.Reason.{Reason}
use Rattle.refusal.specs.declared.Refusal.{Refusal}
use Rattle.refusal.proofs.Limits.{mode_range, mode_tones}
use Rattle.refusal.proofs.Checked.{mode_passed, mode_refused}
use Rattle.tone_range.specs.Range.{HasTones, first_bad_tone}
use Rattle.tone_range.proofs.Ranges.{in_range_tones}
use Rattle.tone_range.proofs.Looks.{bad_found}
use Rattle.weight_range.specs.Range.{first_bad_weight}
use Rattle.energy.specs.Internal.{heard_of, listened}
use Rattle.energy.specs.declared.Heard.{Heard}
use Rattle.energy.proofs.EnergyCases.{Passed, hears_tone, hears_weight, hears}
use Rattle.energy.proofs.listen.Goals as goal
use Rattle.energy.proofs.listen.Goals.{After-check-range}

pub returns-in_err-check_mode : goal.returns-in_err-check_mode
unfolding listened
returns-in_err-check_mode c =
    let told : ◌≡◌ {A = Result Heard Refusal} c.from_residual.result (Err c.in_err-check_mode.field-0.0) = search rules in
    let known = mode_refused _ _ (sym c.in_err-check_mode.ensures) in
    told ∙ ap Err known.0 ∙ simp known.1

pub returns-in_default : goal.returns-in_default
unfolding listened
returns-in_default c =
    let mode = mode_passed _ _ (sym c.in_ok-check_mode.ensures) in
    ap Err c.at.ensures ∙ simp (mode.1, ne_eqb (length c.args.tones.now) 64 c.in_default.ensures.cases)

pub returns-in_default-as_array : goal.returns-in_default-as_array
unfolding listened
returns-in_default-as_array c =
    let a = c.args in
    let mode = mode_passed _ _ (sym c.in_ok-check_mode.ensures) in
    ap Err c.at-in_default-as_array.ensures
    ∙ simp (mode.1, eq-eqb (length a.tones.now) 64 c.in-Some.ensures.cases.long, ne_eqb (length a.weights.now) 64 c.in_default-as_array.ensures.cases)

-- the checks before the ranges are passed
passed : (c : After-check-range) → let a = c.args in Passed a.mode (length a.tones.now) (length a.weights.now)
passed c = record {
  mode = (mode_passed _ _ (sym c.in_ok-check_mode.ensures)).1;
  count = c.in-Some.ensures.cases.long;
  weighed = c.in-Some-as_array.ensures.cases.long;
}

-- the range check is by the mode's count of tones
range : (c : After-check-range) → let a = c.args in c.check-range.result.bad ≡ found 64 (first_bad_tone (2 ^ a.mode) a.tones.now)
range c =
    let a = c.args in
    let p = passed c in
    bad_found _ _ c.check-range.ensures
    ∙ ap (λ (limit : ℕ). found (length c.in-Some.tones.now) (first_bad_tone limit c.in-Some.tones.now)) (c.tone_count.ensures ∙ mode_tones a.mode p.mode)
    ∙ ap (λ (x : List ℕ). found (length x) (first_bad_tone (2 ^ a.mode) x)) c.in-Some.ensures.cases.same
    ∙ ap (λ (n : ℕ). found n (first_bad_tone (2 ^ a.mode) a.tones.now)) p.count

pub returns-in-Some-bad : goal.returns-in-Some-bad
returns-in-Some-bad c =
    let place = (goal.at.returns-in-Some-bad c).After-check-range in
    let known = found_some _ _ _ (sym (range place) ∙ c.in-Some-bad.is) in
    ap Err (c.at-in-Some-bad.ensures ∙ ap (refused_at Reason.Tone) known.0) ∙ sym (hears_tone _ _ _ _ (passed place) known.1)

pub returns-in-Some-first_bad_weight : goal.returns-in-Some-first_bad_weight
returns-in-Some-first_bad_weight c =
    let a = c.args in
    let place = (goal.at.returns-in-Some-first_bad_weight c).After-check-range in
    let good = found_none _ _ (sym (range place) ∙ c.in_default-bad.is) in
    let known = found_some _ _ _ (sym c.first_bad_weight.ensures ∙ c.in-Some-first_bad_weight.is) in
    let same = ap (first_bad_weight a.greatest) c.in-Some-as_array.ensures.cases.same in
    ap Err (c.at-in-Some-first_bad_weight.ensures ∙ ap (refused_at Reason.Weight) (known.0 ∙ same))
    ∙ sym (hears_weight _ _ _ _ (passed place) good (omega (arith, known.1, same)))

pub hear-requires : goal.hear-requires
hear-requires c =
    let place = (goal.at.hear-requires c).After-check-range in
    let p = passed place in
    let mode = c.args.mode in
    let good = found_none _ _ (sym (range place) ∙ c.in_default-bad.is) in
    let tones : HasTones (2 ^ mode) c.in-Some.tones.now = rw c.in-Some.ensures.cases.same (in_range_tones mode _ p.count good) in
    record {
      count = tones.count;
      each = λ t l. ⊎_elim (λ h. inl (lt_of_lt_of_le h (pow_mono {i = mode} {j = 8} (mode_range mode p.mode).1))) (λ e. inr e) (tones.each t l);
    }

pub returns : goal.returns
returns c =
    let a = c.args in
    let place = (goal.at.returns c).After-check-range in
    let good = found_none _ _ (sym (range place) ∙ c.in_default-bad.is) in
    let light = found_none _ _ (sym c.first_bad_weight.ensures ∙ c.in_default-first_bad_weight.is) in
    let same = ap (first_bad_weight a.greatest) c.in-Some-as_array.ensures.cases.same in
    ap Ok (c.hear.ensures ∙ ap₂ heard_of c.in-Some.ensures.cases.same c.in-Some-as_array.ensures.cases.same)
    ∙ sym (hears _ _ _ _ (passed place) good (omega (arith, light, same)))
