-- What only private contracts need: rows as the code has them, and what a piece and a match are told as.
use Rattle.std.specs.Prelude.{◌≡◌, false, cond, Option, Some, None, Result, Ok, Err, List, ℕ, map, eqb}
use Rattle.refusal.specs.Reasons.{reason_of}
use Rattle.sentence.specs.declared.rows.Row.{Row as Entry}
use Rattle.sentence.specs.Patterns.{is_empty}
use Rattle.sentence.specs.Sentences.{Row, pattern_in}
use Rattle.sentence.specs.Reading.{Scanned, Match}

-- the rows of the code's table
abbrev pub listed : List Entry → List Row
listed table = map (λ r. record { reason = reason_of r.number; pattern = r.pattern.now }) table

-- a row of the number has the pattern
pub record IsPatternOf (n : ℕ) (rows : List Row) (pattern : List ℕ) : Type 0 where
  pub same : pattern ≡ pattern_in rows n
  pub some : is_empty pattern ≡ false

-- the bytes that are taken, if there are any, and the number in them
unfoldable pub taken : Scanned → Option (ℕ × ℕ)
taken s = cond (eqb s.count 0) None (Some (s.count, s.value))

-- place and lead of a whole sentence, or how many bytes agree with one
unfoldable pub told : Match → Result (ℕ × ℕ) ℕ
told m = cond m.whole (Ok (m.place, m.lead)) (Err m.shared)
