-- The list of sentences is sound, which is computed; and what that says of one row, and of a row and those after it.
use mathlib.Core.Path.{◌≡◌, refl}
use mathlib.Core.Bool.{true, ◌&&◌, and-eq-true_iff}
use mathlib.Core.List.{List, ◌∷◌}
use Prim.Native.Nat.{ℕ}
use Rattle.lists.specs.Lists.{tab, every}
use Rattle.text.specs.Ascii.{ascii}
use Rattle.text.specs.Decimal.{digits, decimal}
use Rattle.refusal.specs.Refused.{number_of}
use Rattle.sentence.specs.Patterns.{place_mark, has}
use Rattle.sentence.specs.Sentences.{Row, row, number, sentences}
use Rattle.sentence.specs.Condition.{is_mark, ends_number, is_pattern, is_printable, heading, begins_with, is_row, part, is_apart, are_sound}

pub sound : are_sound sentences ≡ true
unfolding number_of tab every ascii digits decimal has row sentences is_mark ends_number is_pattern is_printable heading begins_with is_row part is_apart are_sound
sound = refl

-- ---- one row, of a number and a pattern

pub record IsRow (n : ℕ) (ps : List ℕ) : Type 0 where
  pub pattern : is_pattern ps ≡ true
  pub place : has place_mark ps ≡ true
  pub printable : every is_printable ps ≡ true
  pub begins : begins_with (heading n) ps ≡ true

is_row_lem : (r : Row) → is_row r ≡ true → IsRow (number r) r.pattern
unfolding is_row
is_row_lem r e =
    let a =
    (and-eq-true_iff (is_pattern r.pattern && has place_mark r.pattern && every is_printable r.pattern) (begins_with (heading (number r)) r.pattern)).0 e in
    let b = (and-eq-true_iff (is_pattern r.pattern && has place_mark r.pattern) (every is_printable r.pattern)).0 a.0 in
    let c = (and-eq-true_iff (is_pattern r.pattern) (has place_mark r.pattern)).0 b.0 in
    record { pattern = c.0; place = c.1; printable = b.1; begins = a.1 }

-- ---- a row, and those after it

pub record First (r : Row) (rs : List Row) : Type 0 where
  pub row : IsRow (number r) r.pattern
  pub apart : is_apart r rs ≡ true
  pub rest : are_sound rs ≡ true

pub first : (r : Row) (rs : List Row) → are_sound (r ∷ rs) ≡ true → First r rs
unfolding are_sound
first r rs e =
    let a = (and-eq-true_iff (is_row r && is_apart r rs) (are_sound rs)).0 e in
    let b = (and-eq-true_iff (is_row r) (is_apart r rs)).0 a.0 in
    record { row = is_row_lem r b.0; apart = b.1; rest = a.1 }
