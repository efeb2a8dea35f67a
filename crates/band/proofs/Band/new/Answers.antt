use mathlib.Core.Path.{sym, ◌∙◌}
use Rattle.band.proofs.Settings.{passes}
use Rattle.band.proofs.Answers.{planned_band}
use Rattle.band.proofs.Band.new.Goals as goal

pub band_of-requires : goal.band_of-requires
band_of-requires c = passes _ _ (sym c.check.ensures ∙ c.in_ok-check.was)

pub returns : goal.returns
returns c = rw c.band_of.ensures (planned_band _ _ _ (passes _ _ (sym c.check.ensures ∙ c.in_ok-check.was)))
