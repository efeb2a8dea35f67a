-- A sentence begins with its refusal's number, in printable ASCII.
use mathlib.Core.Path.{◌≡◌, refl, sym, ◌∙◌, ap, ap₂}
use mathlib.Core.Bool.{Bool, true, and-eq-true_iff}
use mathlib.Core.List.{List, [], ◌∷◌, ◌++◌}
use Prim.Native.Nat.{ℕ}
use native.Mathlib.Omega.{arith}
use borrow.Author.Tests.{eqb-true, ne_eqb, le-leb}
use lib.Dec.{eqb}
use Rattle.lists.specs.Lists.{tab, every}
use Rattle.text.specs.Ascii.{ascii}
use Rattle.text.specs.Decimal.{is_digit, decimal}
use Rattle.text.proofs.Digits.{digit_range}
use Rattle.text.proofs.ReadBack.{numbers}
use Rattle.refusal.specs.declared.Refusal.{Refusal}
use Rattle.refusal.specs.Refused.{number_of}
use Rattle.sentence.specs.Patterns.{place_mark, lead_mark, piece_text, filled}
use Rattle.sentence.specs.Sentences.{sentences, pattern_in, sentence_in, is_known, sentence_of}
use Rattle.sentence.specs.Condition.{is_printable, heading, begins_with}
use Rattle.sentence.proofs.Pieces.{Kind, kind}
use Rattle.sentence.proofs.Fillings.{filled_append}
use Rattle.sentence.proofs.Soundness.{sound, IsRow}
use Rattle.sentence_laws.specs.Laws.{Form}
use Rattle.sentence_laws.proofs.SoundRows.{row_of}
use Rattle.sentence_laws.proofs.KnownRows.{known}

-- ---- printable bytes

digits_printable : (ds : List ℕ) → every is_digit ds ≡ true → every is_printable ds ≡ true
unfolding every is_printable
digits_printable [] e = refl
digits_printable (d ∷ ds) e =
    let both = (and-eq-true_iff (is_digit d) (every is_digit ds)).0 e in
    let range = digit_range d both.0 in
    rw (le-leb 32 d (omega arith), le-leb d 126 (omega arith)) (digits_printable ds both.1)

decimal_printable : (n : ℕ) → every is_printable (decimal n) ≡ true
decimal_printable n = digits_printable (decimal n) (numbers.are_digits n)

every_append : (p : ℕ → Bool) (xs ys : List ℕ) → every p xs ≡ true → every p ys ≡ true → every p (xs ++ ys) ≡ true
unfolding every
every_append p [] ys e f = f
every_append p (x ∷ xs) ys e f =
    let both = (and-eq-true_iff (p x) (every p xs)).0 e in
    rw both.0 (every_append p xs ys both.1 f)

-- ---- texts of a pattern

module _ (q l : ℕ) where
  filled_digits : (ds : List ℕ) → every is_digit ds ≡ true → filled q l ds ≡ ds
  unfolding every filled piece_text
  filled_digits [] e = refl
  filled_digits (d ∷ ds) e =
      let both = (and-eq-true_iff (is_digit d) (every is_digit ds)).0 e in
      let range = digit_range d both.0 in
      rw (ne_eqb d place_mark (λ h. omega arith), ne_eqb d lead_mark (λ h. omega arith)) (ap (λ (t : List ℕ). d ∷ t) (filled_digits ds both.1))

  filled_word : filled q l (ascii "Refusal ") ≡ ascii "Refusal "
  unfolding tab ascii filled piece_text
  filled_word = refl

  filled_colon : filled q l (ascii ": ") ≡ ascii ": "
  unfolding tab ascii filled piece_text
  filled_colon = refl

  -- the heading has no mark in it
  filled_heading : (n : ℕ) → filled q l (heading n) ≡ heading n
  unfolding heading
  filled_heading n =
      let digits = filled_digits (decimal n) (numbers.are_digits n) in
      filled_append q l (ascii "Refusal " ++ decimal n) (ascii ": ")
      ∙ ap₂ ◌++◌ (filled_append q l (ascii "Refusal ") (decimal n) ∙ ap₂ ◌++◌ filled_word digits) filled_colon

  piece_printable : (p : ℕ) → is_printable p ≡ true → every is_printable (piece_text q l p) ≡ true
  unfolding piece_text every
  piece_printable p e = by (kind p)
    where
      by : Kind p → every is_printable (piece_text q l p) ≡ true
      by (Kind.place f g) = rw f (decimal_printable q)
      by (Kind.lead f g) = rw (f, g) (decimal_printable l)
      by (Kind.text f g) = rw (f, g, e)

  filled_printable : (ps : List ℕ) → every is_printable ps ≡ true → every is_printable (filled q l ps) ≡ true
  unfolding every filled
  filled_printable [] e = refl
  filled_printable (p ∷ ps) e =
      let both = (and-eq-true_iff (is_printable p) (every is_printable ps)).0 e in
      every_append is_printable (piece_text q l p) (filled q l ps) (piece_printable p both.0) (filled_printable ps both.1)

-- ---- beginnings

begins_split : (xs ys : List ℕ) → begins_with xs ys ≡ true → (words : List ℕ) × (ys ≡ xs ++ words)
unfolding begins_with
begins_split [] ys e = (ys, refl)
begins_split (x ∷ xs) [] e = absurd cc
begins_split (x ∷ xs) (y ∷ ys) e =
    let both = (and-eq-true_iff (eqb x y) (begins_with xs ys)).0 e in
    let (words, same) = begins_split xs ys both.1 in
    (words, ap₂ ◌∷◌ (sym (eqb-true x y both.0)) same)

-- ---- the sentences

own_row : (r : Refusal) → is_known r ≡ true → IsRow (number_of r.reason) (pattern_in sentences (number_of r.reason))
unfolding is_known
own_row r k = row_of sentences (number_of r.reason) sound (known sentences r k).some

begins : (r : Refusal) → is_known r ≡ true → (words : List ℕ) × (sentence_of r ≡ heading (number_of r.reason) ++ words)
unfolding sentence_of sentence_in
begins r k =
    let (words, same) = begins_split (heading (number_of r.reason)) (pattern_in sentences (number_of r.reason)) (own_row r k).begins in (
      filled r.place r.lead words,
      ap (filled r.place r.lead) same
          ∙ filled_append r.place r.lead (heading (number_of r.reason)) words
          ∙ ap (λ (t : List ℕ). t ++ filled r.place r.lead words) (filled_heading r.place r.lead (number_of r.reason)),
    )

printable : (r : Refusal) → is_known r ≡ true → every is_printable (sentence_of r) ≡ true
unfolding sentence_of sentence_in
printable r k = filled_printable r.place r.lead (pattern_in sentences (number_of r.reason)) (own_row r k).printable

pub form : Form
form = record { begins = begins; printable = printable }
