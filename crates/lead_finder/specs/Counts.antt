-- What the symbols count for one character, from their signs and weights.
use Rattle.std.specs.Prelude.{Bool, false, List, ℕ, ◌%◌, ℤ, pos, get_or}
use Rattle.lists.specs.Lists.{num}
use Rattle.walsh.specs.Words.{signed}

-- what symbol t counts: its weight, taken by the lowest four bits, with its sign put on it
abbrev pub count_at : List Bool → List ℕ → ℕ → ℤ
count_at signs weights t = signed (get_or signs t false) (pos (num weights t % 16))
