use Rattle.band.proofs.Formulas.{hertz_computed}
use Rattle.band.proofs.Band.hertz.Goals as goal

pub returns : goal.returns
returns c =
    let a = c.args in
    rw c.from.ensures (hertz_computed a.self a.tone)
