-- What is written of a text, by whether it fits, and of the same text said in another way.
use mathlib.Core.Path.{◌≡◌, ap, subst}
use mathlib.Core.List.{List, []}
use Prim.Native.Nat.{ℕ, ◌<◌, ◌≤◌}
use native.Mathlib.Decide.{dec_le}
use native.Mathlib.Omega.{arith}
use borrow.Author.Tests.{le-leb, lt-leb}
use lib.ListN.{length}
use Rattle.lists.specs.Lists.{over}
use Rattle.text.specs.Written.{written}

module _ (text : List ℕ) (room : ℕ) where
  pub written_whole : length text ≤ room → written text room ≡ text
  unfolding written
  written_whole h = rw (le-leb (length text) room h)

  pub written_none : room < length text → written text room ≡ []
  unfolding written
  written_none h = rw (lt-leb (length text) room h)

  pub written_within : length (written text room) ≤ room
  written_within = by (dec_le (length text) room)
    where
      by : Dec (length text ≤ room) → length (written text room) ≤ room
      by (yes l) = omega (arith, ap length (written_whole l))
      by (no g) = omega (arith, ap length (written_none (omega arith)))

-- what a function that puts a text answers and leaves
abbrev pub Put : List ℕ → List ℕ → ℕ → List ℕ → Type 0
Put text out r after = (r ≡ length (written text (length out))) × (after ≡ over (written text (length out)) out)

pub put_as : (out : List ℕ) {s t : List ℕ} {r : ℕ} {after : List ℕ} → Put s out r after → s ≡ t → Put t out r after
put_as out {r} {after} put e = subst (λ (x : List ℕ). Put x out r after) e put
