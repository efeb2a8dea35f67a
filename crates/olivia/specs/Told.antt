-- What C is told of the range check, of a frequency and of a trial (include/olivia.h).
use Rattle.std.specs.Prelude.{Float, cond, not, List, ℕ, ◌^◌, ltb, length, Ok, Err}
use Rattle.lists.specs.Caps.{capped}
use Rattle.refusal.specs.Checks.{is_mode}
use Rattle.tone_range.specs.Range.{first_bad_tone, looked_at}
use Rattle.demands.specs.declared.Trial.{Trial}
use Rattle.weighted_demands.specs.declared.WeightedTrial.{WeightedTrial}
use Rattle.scaled.specs.Exact.{scaled}
use Rattle.told.specs.Told.{counted_told}
use Rattle.olivia.specs.declared.LookedAnswer.{LookedAnswer}
use Rattle.olivia.specs.declared.HertzAnswer.{HertzAnswer}
use Rattle.olivia.specs.declared.TrialAnswers.{TrialAnswers}
use Rattle.olivia.specs.declared.WeightedTrialAnswers.{WeightedTrialAnswers}
use Rattle.refusal.specs.Refused.{Answered, number_of}

abbrev pub looked_answer : ℕ → ℕ → ℕ → LookedAnswer
looked_answer number place looked = record { number = number; place = place; looked = looked }

-- the range check by itself: 1, with nothing looked at, then 8 with the place of the first bad tone; how many tones were looked at beside it
unfoldable pub looked_told : ℕ → List ℕ → LookedAnswer
looked_told b tones =
    cond (not (is_mode b)) (looked_answer 1 0 0)
    (cond (ltb (first_bad_tone (2 ^ b) tones) (length tones)) (looked_answer 8 (first_bad_tone (2 ^ b) tones) (looked_at (2 ^ b) tones))
    (looked_answer 0 0 (looked_at (2 ^ b) tones)))

-- a refusal has no frequency: 0 stands there
abbrev pub hertz_told : Answered Float → HertzAnswer
hertz_told (Ok x) = record { number = 0; place = 0; hertz = x }
hertz_told (Err r) = record { number = number_of r.reason; place = r.place; hertz = scaled 0 }

unfoldable pub trial_told : Trial → TrialAnswers
trial_told t = record {
  encoded = counted_told t.encoded;
  first = counted_told t.first.answer;
  second = counted_told t.second.answer;
  replaced = capped t.replaced;
  missing = capped t.missing;
}

unfoldable pub weighted_trial_told : WeightedTrial → WeightedTrialAnswers
weighted_trial_told t = record {
  encoded = counted_told t.encoded;
  first = counted_told t.first.answer;
  second = counted_told t.second.answer;
  damage = t.damage;
}
