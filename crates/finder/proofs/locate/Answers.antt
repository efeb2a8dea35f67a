use Rattle.std.proofs.Common.{rules, ◌≡◌, sym, ◌∙◌, ap, ap₂, ℕ, ◌<◌, ◌^◌, length, Result, Err, arith}
use Rattle.std.specs.Option.{ok_or}
use Rattle.std.proofs.lemmas.Grind.{common_steps}
use Rattle.lists.specs.Found.{found}
use Rattle.lists.proofs.Found.{found_some, found_none}
use Rattle.refusal.specs.Refused.{refused_at}
use Rattle.refusal.specs.declared.Reason.{Reason}
use Rattle.refusal.specs.declared.Refusal.{Refusal}
use Rattle.refusal.proofs.Limits.{within_range, mode_tones}
use Rattle.refusal.proofs.Checked.{mode_passed, mode_refused, lead_passed, lead_refused}
use Rattle.tone_range.specs.Range.{first_bad_tone, range_of}
use Rattle.tone_range.proofs.Looks.{bad_found}
use Rattle.search.specs.Starts.{longest_run}
use Rattle.finder.proofs.Starts.{finds_first_start}
use Rattle.finder.proofs.FindCases.{Passed, refuses_mode, refuses_lead, refuses_count, refuses_room, refuses_tone, tells}
use Rattle.finder.proofs.locate.Goals as goal
use Rattle.finder.proofs.locate.Goals.{After-check-range}

pub returns-in_err-b : goal.returns-in_err-b
returns-in_err-b c =
    let told : ◌≡◌ {A = Result ℕ Refusal} c.from_residual.result (Err c.in_err-b.field-0.0) = search rules in
    let known = mode_refused _ _ (sym c.in_err-b.ensures) in
    told ∙ ap Err known.0 ∙ sym (refuses_mode _ _ _ _ known.1)

pub returns-in_err-check_lead : goal.returns-in_err-check_lead
returns-in_err-check_lead c =
    let told : ◌≡◌ {A = Result ℕ Refusal} c.from_residual-in_err-check_lead.result (Err c.in_err-check_lead.field-0.0) = search rules in
    let mode = mode_passed _ _ (sym c.in_ok-b.ensures) in
    let known = lead_refused _ _ _ (sym c.in_err-check_lead.ensures) in
    told ∙ ap Err known.0 ∙ sym (refuses_lead _ _ _ _ mode.1 known.1)

pub returns-then-not-is_run : goal.returns-then-not-is_run
returns-then-not-is_run c =
    let mode = mode_passed _ _ (sym c.in_ok-b.ensures) in
    let lead = lead_passed _ _ _ (sym c.in_ok-check_lead.ensures) in
    ap Err c.at.ensures ∙ sym (refuses_count _ _ _ _ (record { mode = mode.1; lead = lead }) (sym c.is_run.ensures ∙ c.if-not-is_run.true))

pub returns-then-room-b : goal.returns-then-room-b
returns-then-room-b c =
    let mode = mode_passed _ _ (sym c.in_ok-b.ensures) in
    let lead = lead_passed _ _ _ (sym c.in_ok-check_lead.ensures) in
    let short : c.args.room < c.args.mode = omega (arith, c.if-room-b.true, mode.0) in
    ap Err c.at-then-room-b.ensures ∙ sym (refuses_room _ _ _ _ (record { mode = mode.1; lead = lead }) (sym c.is_run.ensures ∙ c.if-not-is_run.false) short)

-- what the checks before the tones' range leave
passed : (c : After-check-range) → let a = c.args in Passed a.mode a.least_lead a.run.now a.room
passed c =
    let mode = mode_passed _ _ (sym c.in_ok-b.ensures) in
    record {
      settings = record { mode = mode.1; lead = lead_passed _ _ _ (sym c.in_ok-check_lead.ensures) };
      count = sym c.is_run.ensures ∙ c.if-not-is_run.false;
      fits = omega (arith, c.if-room-b.false, mode.0);
    }

-- the range is that of the mode's tones
range : (c : After-check-range) → let a = c.args in c.check-range.result.bad ≡ found (length a.run.now) (first_bad_tone (2 ^ a.mode) a.run.now)
range c =
    let a = c.args in
    let limit = c.tone_count.ensures ∙ mode_tones a.mode (passed c).settings.mode in
    bad_found (2 ^ a.mode) a.run.now (c.check-range.ensures ∙ ap (λ (limit : ℕ). range_of limit a.run.now) limit)

pub returns-in-Some : goal.returns-in-Some
returns-in-Some c =
    let place = (goal.at.returns-in-Some c).After-check-range in
    let known = found_some _ _ _ (sym (range place) ∙ c.in-Some.is) in
    ap Err (c.at-in-Some.ensures ∙ ap (refused_at Reason.Tone) known.0) ∙ sym (refuses_tone _ _ _ _ (passed place) known.1)

pub returns : goal.returns
returns c =
    let place = (goal.at.returns c).After-check-range in
    let p = passed place in
    let good = found_none _ _ (sym (range place) ∙ c.in_default.is) in
    let start = c.first_accepted-start.ensures ∙ finds_first_start _ _ _ good _ p.settings p.fits (within_range 64 longest_run _ p.count).1 _ (search (arith, common_steps)) in
    c.ok_or.ensures.value ∙ ap₂ ok_or start c.at-2.ensures ∙ tells _ _ _ _ p good
