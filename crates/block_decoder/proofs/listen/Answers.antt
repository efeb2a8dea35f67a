use Rattle.std.proofs.Common.{rules, ◌≡◌, ◌∙◌, sym, ap, ap₂, ℕ, List, ◌^◌, ◌<◌, length, Result, Ok, Err, arith, eq-eqb, ne_eqb, lt-ltb}
use lib.Pow.{pow_mono}
use Rattle.lists.specs.Found.{found}
use Rattle.lists.proofs.Found.{found_some, found_none}
use Rattle.refusal.specs.Refused.{refused_at}
use Rattle.refusal.specs.declared.Reason.{Reason}
use Rattle.refusal.specs.declared.Refusal.{Refusal}
use Rattle.refusal.proofs.Limits.{mode_range, mode_tones}
use Rattle.refusal.proofs.Checked.{mode_passed, mode_refused, lead_passed, lead_refused}
use Rattle.decision.specs.declared.Character.{Character}
use Rattle.tone_range.specs.Range.{first_bad_tone}
use Rattle.tone_range.proofs.Ranges.{tones_most}
use Rattle.weight_range.specs.Range.{HasWeights, first_bad_weight}
use Rattle.weight_range.proofs.Ranges.{in_range_weights, fewer_weights}
use Rattle.chain.proofs.Values.{mode_values}
use Rattle.block_decoder.specs.Decoding.{heard_weights}
use Rattle.block_decoder.specs.Internal.{seen_to, listened}
use Rattle.block_decoder.proofs.Seen.{seen_none, seen_found}
use Rattle.block_decoder.proofs.DecodeCases.{Passed, hears_tone, hears_weight, hears}
use Rattle.block_decoder.proofs.listen.Goals as goal
use Rattle.block_decoder.proofs.listen.Goals.{After-look}

pub returns-in_err-b : goal.returns-in_err-b
unfolding listened
returns-in_err-b c =
    let told : ◌≡◌ {A = Result (List Character) Refusal} c.from_residual.result (Err c.in_err-b.field-0.0) = search rules in
    let known = mode_refused _ _ (sym c.in_err-b.ensures) in
    told ∙ ap Err known.0 ∙ simp known.1

pub returns-in_err-check_lead_at : goal.returns-in_err-check_lead_at
unfolding listened
returns-in_err-check_lead_at c =
    let told : ◌≡◌ {A = Result (List Character) Refusal} c.from_residual-in_err-check_lead_at.result (Err c.in_err-check_lead_at.field-0.0) = search rules in
    let mode = (mode_passed _ _ (sym c.in_ok-b.ensures)).1 in
    let known = lead_refused _ _ _ (sym c.in_err-check_lead_at.ensures) in
    told ∙ ap Err known.0 ∙ simp (mode, known.1)

pub returns-in_default : goal.returns-in_default
unfolding listened
returns-in_default c =
    let a = c.args in
    let mode = (mode_passed _ _ (sym c.in_ok-b.ensures)).1 in
    let lead = lead_passed _ _ _ (sym c.in_ok-check_lead_at.ensures) in
    ap Err c.at.ensures ∙ simp (mode, lead, ne_eqb (length a.tones.now) 64 c.in_default.ensures.cases)

pub returns-in_default-as_array : goal.returns-in_default-as_array
unfolding listened
returns-in_default-as_array c =
    let a = c.args in
    let mode = (mode_passed _ _ (sym c.in_ok-b.ensures)).1 in
    let lead = lead_passed _ _ _ (sym c.in_ok-check_lead_at.ensures) in
    let count : length a.tones.now ≡ 64 = c.in-Some.ensures.cases.long in
    ap Err c.at-in_default-as_array.ensures
    ∙ simp (mode, lead, eq-eqb (length a.tones.now) 64 count, ne_eqb (length a.weights.now) 64 c.in_default-as_array.ensures.cases)

pub returns-then-room-b : goal.returns-then-room-b
unfolding listened
returns-then-room-b c =
    let a = c.args in
    let mode = (mode_passed _ _ (sym c.in_ok-b.ensures)).1 in
    let lead = lead_passed _ _ _ (sym c.in_ok-check_lead_at.ensures) in
    let count : length a.tones.now ≡ 64 = c.in-Some.ensures.cases.long in
    let weighed : length a.weights.now ≡ 64 = c.in-Some-as_array.ensures.cases.long in
    let short : a.room < a.mode = omega (arith, c.if-room-b.true, (mode_passed _ _ (sym c.in_ok-b.ensures)).0) in
    ap Err c.at-then-room-b.ensures
    ∙ simp (mode, lead, eq-eqb (length a.tones.now) 64 count, eq-eqb (length a.weights.now) 64 weighed, lt-ltb a.room a.mode short)

pub look-requires : goal.look-requires
look-requires c =
    let a = c.args in
    let mode = (mode_passed _ _ (sym c.in_ok-b.ensures)).1 in
    (omega (arith, c.tone_count.ensures ∙ mode_tones a.mode mode, pow_mono {i = a.mode} {j = 8} (mode_range a.mode mode).1), seen_none _)

-- the checks before the tones' range are passed
settings : (c : After-look) → let a = c.args in Passed a.greatest a.mode a.least_lead (length a.tones.now) (length a.weights.now) a.room
settings c =
    let known = mode_passed _ _ (sym c.in_ok-b.ensures) in
    record {
      mode = known.1;
      lead = lead_passed _ _ _ (sym c.in_ok-check_lead_at.ensures);
      count = c.in-Some.ensures.cases.long;
      weighed = c.in-Some-as_array.ensures.cases.long;
      fits = omega (arith, c.if-room-b.false, known.0);
    }

-- the range check is by the mode's count of tones
range : (c : After-look) → let a = c.args in c.look.result ≡ found 64 (first_bad_tone (2 ^ a.mode) a.tones.now)
range c =
    let a = c.args in
    c.look.ensures.place
    ∙ ap (λ (n : ℕ). found 64 (first_bad_tone n c.in-Some.tones.now)) (omega (arith, c.tone_count.ensures, mode_tones a.mode (settings c).mode))
    ∙ ap (λ (x : List ℕ). found 64 (first_bad_tone (2 ^ a.mode) x)) c.in-Some.ensures.cases.same

pub returns-in-Some-look : goal.returns-in-Some-look
returns-in-Some-look c =
    let place = (goal.at.returns-in-Some-look c).After-look in
    let known = found_some _ _ _ (sym (range place) ∙ c.in-Some-look.is) in
    ap Err (c.at-in-Some-look.ensures ∙ ap (refused_at Reason.Tone) known.0) ∙ sym (hears_tone _ _ _ _ _ _ (settings place) known.1)

pub returns-in-Some-first_bad_weight : goal.returns-in-Some-first_bad_weight
returns-in-Some-first_bad_weight c =
    let a = c.args in
    let place = (goal.at.returns-in-Some-first_bad_weight c).After-look in
    let good = found_none _ _ (sym (range place) ∙ c.in_default-look.is) in
    let known = found_some _ _ _ (sym c.first_bad_weight.ensures ∙ c.in-Some-first_bad_weight.is) in
    let same = ap (first_bad_weight a.greatest) c.in-Some-as_array.ensures.cases.same in
    ap Err (c.at-in-Some-first_bad_weight.ensures ∙ ap (refused_at Reason.Weight) (known.0 ∙ same))
    ∙ sym (hears_weight _ _ _ _ _ _ (settings place) good (omega (arith, known.1, same)))

pub returns : goal.returns
returns c =
    let a = c.args in
    let place = (goal.at.returns c).After-look in
    let p = settings place in
    let good = found_none _ _ (sym (range place) ∙ c.in_default-look.is) in
    let light = found_none _ _ (sym c.first_bad_weight.ensures ∙ c.in_default-first_bad_weight.is) in
    let same = ap (first_bad_weight a.greatest) c.in-Some-as_array.ensures.cases.same in
    let few : HasWeights 15 a.weights.now = fewer_weights _ _ 15 c.requires (in_range_weights _ _ p.weighed (omega (arith, light, same))) in
    let first = ap₂ first_bad_tone (omega (arith, c.tone_count.ensures, mode_tones a.mode p.mode)) c.in-Some.ensures.cases.same in
    let whole : first_bad_tone (2 ^ a.mode) a.tones.now ≡ 64 = omega (arith, good, tones_most (2 ^ a.mode) a.tones.now, p.count) in
    let seen = c.look.ensures.symbols ∙ ap₂ seen_to c.in-Some.ensures.cases.same (first ∙ whole) in
    let heard = c.heard_weights-heard.ensures ∙ ap₂ heard_weights c.in-Some.ensures.cases.same c.in-Some-as_array.ensures.cases.same in
    ap Ok (seen_found a.tones.now a.weights.now few a.mode p.mode _ (c.values-values.ensures ∙ mode_values _ p.mode) _ _ _ seen heard c.decide.ensures)
    ∙ sym (hears _ _ _ _ _ _ p good (omega (arith, light, same)))
