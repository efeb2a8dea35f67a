-- What is written of a text.
use Rattle.std.specs.Prelude.{cond, List, [], ℕ, leb, length}

-- what is written of a text into an output of room bytes: the whole, or nothing if it does not fit
unfoldable pub written : List ℕ → ℕ → List ℕ
written text room = cond (leb (length text) room) text []
