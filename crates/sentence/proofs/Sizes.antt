-- How long patterns and sentences are, and the number that an answer carries.
use mathlib.Core.Path.{◌≡◌, refl}
use mathlib.Core.Bool.{Bool, true, false, cond}
use mathlib.Core.List.{List, [], ◌∷◌}
use Prim.Native.Nat.{ℕ, ◌+◌, ◌*◌, ◌<◌, ◌≤◌, ◌^◌}
use native.Mathlib.Omega.{arith}
use borrow.Author.Tests.{leb-true}
use lib.Dec.{leb, eqb}
use lib.ListN.{length, length-append}
use Rattle.lists.specs.Lists.{tab}
use Rattle.text.specs.Ascii.{ascii}
use Rattle.sentence.specs.Patterns.{piece_text, filled}
use Rattle.sentence.specs.Sentences.{Row, row, number, sentences, pattern_in}
use Rattle.sentence.proofs.Fillings.{text_short}
use Rattle.std.proofs.Common.{Ok, Err}
use Rattle.refusal.specs.declared.Refusal.{Refusal}
use Rattle.refusal.specs.Refused.{Answered}

-- the bytes of a table of the rows, which has for each its number, the length of its pattern, and this
table_length : List Row → ℕ
table_length [] = 0
table_length (r ∷ rs) = 2 + length r.pattern + table_length rs

table_computed : leb (table_length sentences) 65535 ≡ true
unfolding tab ascii row sentences table_length
table_computed = refl

pattern_in_table : (rows : List Row) (n : ℕ) → length (pattern_in rows n) ≤ table_length rows
unfolding pattern_in table_length
pattern_in_table [] n = omega arith
pattern_in_table (r ∷ rs) n = by (eqb (number r) n) (pattern_in_table rs n)
  where
    by : (t : Bool) → length (pattern_in rs n) ≤ table_length rs
        → length (cond t r.pattern (pattern_in rs n)) ≤ 2 + length r.pattern + table_length rs
    by true h = omega arith
    by false h = omega (arith, h)

pub pattern_short : (n : ℕ) → length (pattern_in sentences n) ≤ 65535
pattern_short n = omega (arith, pattern_in_table sentences n, leb-true (table_length sentences) 65535 table_computed)

pub filled_short : (place lead : ℕ) → place < 2 ^ 64 → lead < 2 ^ 64 → (ps : List ℕ) → length (filled place lead ps) ≤ 20 * length ps
unfolding filled
filled_short place lead hp hl [] = omega arith
filled_short place lead hp hl (p ∷ ps) =
    omega (
      arith,
      length-append (piece_text place lead p) (filled place lead ps),
      text_short place lead p hp hl,
      filled_short place lead hp hl ps,
    )

-- ---- the length or the place that an answer carries

abbrev pub written_carries : Answered ℕ → ℕ
written_carries (Ok n) = n
written_carries (Err r) = r.place

abbrev pub read_carries : Answered Refusal → ℕ
read_carries (Ok r) = r.place
read_carries (Err r) = r.place
