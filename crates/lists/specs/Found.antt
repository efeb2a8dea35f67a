-- Places that may not be there.
use Rattle.std.specs.Prelude.{Option, Some, None, cond, ℕ, ltb}

-- place s, if it is one of the n below n
unfoldable pub found : ℕ → ℕ → Option ℕ
found n s = cond (ltb s n) (Some s) None
