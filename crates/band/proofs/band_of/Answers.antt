use mathlib.Core.Path.{ap, ◌∙◌}
use Prim.Native.Nat.{ℕ}
use lib.Ieee.{binary64, div}
use Rattle.refusal.proofs.Limits.{mode_tones}
use Rattle.band.specs.Frequencies.{band_of}
use Rattle.scaled.specs.Exact.{whole}
use Rattle.band.proofs.Settings.{passed}
use Rattle.band.proofs.Formulas.{edge_exact, spacing_exact}
use Rattle.band.proofs.band_of.Goals as goal

pub returns : goal.returns
unfolding band_of
returns c =
    let a = c.args in
    let passes = c.requires in
    let tones = c.tone_count.ensures ∙ mode_tones a.mode (passed a.mode a.width a.centre 0 passes).mode in
    let edge = edge_exact a.mode a.width a.centre passes in
    let spacing = ap (λ (n : ℕ). div binary64 (whole a.width) (whole n)) tones ∙ spacing_exact a.mode a.width a.centre passes in
    rw (c.from-centre_hz.ensures, c.from-width_hz.ensures, c.from-tones.ensures) (λ i. record { edge = edge i; spacing = spacing i })
