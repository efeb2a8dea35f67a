use Rattle.std.proofs.Common.{sym, ◌∙◌}
use Rattle.report.proofs.Puts.{put_nothing}
use Rattle.judge.specs.Judged.{checked_said}
use Rattle.judge.proofs.check_settings.Goals as goal

-- no text is put
pub returns-clause-output : goal.returns-clause-output
unfolding checked_said
returns-clause-output c =
    rw (sym c.is_mode.ensures ∙ c.if-not-is_mode.false, sym c.is_lead.ensures ∙ c.if-not-is_lead.false) (put_nothing c.args.out.now).1
