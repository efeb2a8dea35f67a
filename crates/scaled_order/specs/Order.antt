-- An f64 and k / 512, compared by their values: nothing is rounded (law `Order`).
use Rattle.std.specs.Prelude.{Bool, true, false, not, ◌&&◌, ℕ, ◌*◌, leb, eqb, Float}
use Rattle.std.specs.Float.{nan, inf, fin}
use Rattle.std.specs.Float.Ieee.{up, down}

-- x is k / 512 or more. A finite x is ± m × 2^e, where 2^e is up e / down e; with a minus sign only −0.0 is 0 or more.
unfoldable pub at_least : ℕ → Float → Bool
at_least k nan = false
at_least k (inf s) = not s
at_least k (fin false m e) = leb (k * down e) (m * up e * 512)
at_least k (fin true m e) = eqb k 0 && eqb m 0
