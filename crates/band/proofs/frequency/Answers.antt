use mathlib.Core.Path.{sym, ◌∙◌}
use Rattle.band.proofs.Settings.{tone_0, passes}
use Rattle.band.proofs.Formulas.{hertz_exact}
use Rattle.band.proofs.Answers.{tuned_hertz}
use Rattle.band.specs.Limits.{fault}
use Rattle.std.proofs.Common.{◌≡◌, None}
use Rattle.band.proofs.frequency.Goals as goal
use Rattle.band.proofs.frequency.Goals.{In_ok-check}

-- every check has passed
passed : (c : In_ok-check) → let a = c.args in fault a.mode a.width a.centre a.tone ≡ None
passed c = passes _ _ (sym c.check.ensures ∙ c.in_ok-check.was)

pub band_of-band-requires : goal.band_of-band-requires
band_of-band-requires c = tone_0 _ _ _ _ (passed (goal.at.band_of-band-requires c).In_ok-check)

pub returns : goal.returns
returns c =
    let passes = passed (goal.at.returns c).In_ok-check in
    rw (c.hertz.ensures, c.band_of-band.ensures, hertz_exact _ _ _ (tone_0 _ _ _ _ passes) _ c.ranges.tone.fits) (tuned_hertz _ _ _ _ passes)
