-- Reading the bytes of a word one after the other gives what is defined of the whole word: whether it is one, and its value.
use mathlib.Core.Path.{◌≡◌, refl, sym, ◌∙◌, ap}
use mathlib.Core.Bool.{Bool, true, false, cond, ◌&&◌, ◌||◌, and-false, and_comm, and-eq-true_iff}
use mathlib.Core.List.{List, [], ◌∷◌}
use Prim.Native.Nat.{ℕ, ◌+◌, ◌-◌, ◌*◌, ◌<◌, ◌≤◌}
use native.Mathlib.Omega.{arith}
use borrow.Author.Tests.{leb-true, leb-false, le-leb, lt-leb, ne_eqb}
use lib.Dec.{leb, eqb}
use Rattle.chain.specs.Chain.{missing_mark}
use Rattle.lists.specs.Lists.{every}
use Rattle.text.specs.Ascii.{hyphen}
use Rattle.text.specs.Decimal.{is_digit, value_from}
use Rattle.text.proofs.Digits.{digit_range}
use Rattle.reader.specs.declared.Word.{Word}
use Rattle.reader.specs.declared.Word.TheVariants.{Empty, Number, Unreadable}
use Rattle.reader.proofs.ReaderCases.{number_over}
use Rattle.reader_laws.specs.Input.{is_number, is_mark, is_word, value_of}
use Rattle.reader.specs.Reader.{number_with, with_digit, with_mark, next_word, is_whole, is_empty, tone_in}

-- a word's state after more bytes, none of them a space
unfoldable pub word_after : Bool → Word → List ℕ → Word
word_after marks s [] = s
word_after marks s (c ∷ w) = word_after marks (next_word marks s c) w

-- the state after digits that follow others of value v
unfoldable number_from : ℕ → List ℕ → Word
number_from v w = cond (every is_digit w && leb (value_from v w) 65535) (Number (value_from v w)) Unreadable

-- the state after a whole word of one byte or more
unfoldable judged_word : Bool → Bool → ℕ → Word
judged_word number mark v = cond number (Number v) (cond mark (Number missing_mark) Unreadable)

value_grows : (w : List ℕ) (v : ℕ) → v ≤ value_from v w
unfolding value_from
value_grows [] v = omega arith
value_grows (c ∷ w) v = omega (arith, value_grows w (10 * v + (c - 48)))

digit_no_mark : (c : ℕ) (w : List ℕ) → is_digit c ≡ true → is_mark (c ∷ w) ≡ false
unfolding is_mark
digit_no_mark c [] e = ne_eqb c hyphen (λ h. omega (arith, digit_range c e))
digit_no_mark c (d ∷ w) e = refl

number_no_mark : (c : ℕ) (w : List ℕ) → is_number (c ∷ w) ≡ true → is_mark (c ∷ w) ≡ false
unfolding is_number every
number_no_mark c w e = digit_no_mark c w ((and-eq-true_iff _ _).0 ((and-eq-true_iff _ _).0 e).0).0

-- ---- a word of which a byte was read is not empty

number_not_empty : (v d : ℕ) → is_empty (number_with v d) ≡ false
unfolding number_with
number_not_empty v d = by (leb (10 * v + d) 65535)
  where
    by : (t : Bool) → is_empty (cond t (Number (10 * v + d)) Unreadable) ≡ false
    by true = refl
    by false = refl

digit_not_empty : (s : Word) (d : ℕ) → is_empty (with_digit s d) ≡ false
unfolding with_digit
digit_not_empty Empty d = number_not_empty 0 d
digit_not_empty (Number v) d = number_not_empty v d
digit_not_empty Unreadable d = refl

mark_not_empty : (s : Word) → is_empty (with_mark s) ≡ false
mark_not_empty Empty = refl
mark_not_empty (Number v) = refl
mark_not_empty Unreadable = refl

module _ (marks : Bool) where
  -- what holds after a digit, after a mark, and of a word that is none holds after any byte
  after_byte : (P : Word → Type 0) (s : Word) → ((d : ℕ) → P (with_digit s d)) → P (with_mark s) → P Unreadable → (c : ℕ) → P (next_word marks s c)
  unfolding next_word
  after_byte P s p q r c = by (is_digit c) (eqb c hyphen && marks)
    where
      by : (t u : Bool) → P (cond t (with_digit s (c - 48)) (cond u (with_mark s) Unreadable))
      by true u = p (c - 48)
      by false true = q
      by false false = r

  pub byte_not_empty : (s : Word) (c : ℕ) → is_empty (next_word marks s c) ≡ false
  byte_not_empty s c = after_byte (λ w. is_empty w ≡ false) s (digit_not_empty s) (mark_not_empty s) refl c

  -- ---- words that are none, and marks

  next_unreadable : (c : ℕ) → next_word marks Unreadable c ≡ Unreadable
  unfolding with_digit
  next_unreadable c = after_byte (λ w. w ≡ Unreadable) Unreadable (λ d. refl) refl refl c

  next_after_mark : (c : ℕ) → next_word marks (Number missing_mark) c ≡ Unreadable
  unfolding with_digit
  next_after_mark c = after_byte (λ w. w ≡ Unreadable) (Number missing_mark) (λ d. number_over missing_mark d (omega arith)) refl refl c

  pub unreadable_stays : (w : List ℕ) → word_after marks Unreadable w ≡ Unreadable
  unfolding word_after
  unreadable_stays [] = refl
  unreadable_stays (c ∷ w) = ap (λ (s : Word). word_after marks s w) (next_unreadable c) ∙ unreadable_stays w

  mark_alone : (c : ℕ) (w : List ℕ) → word_after marks (Number missing_mark) (c ∷ w) ≡ Unreadable
  unfolding word_after
  mark_alone c w = ap (λ (s : Word). word_after marks s w) (next_after_mark c) ∙ unreadable_stays w

  -- ---- numbers

  -- a digit more, by what a number of that value reads
  digit_read_lem : (v d : ℕ) (w : List ℕ) → (10 * v + d ≤ 65535 → word_after marks (Number (10 * v + d)) w ≡ number_from (10 * v + d) w)
      → word_after marks (number_with v d) w ≡ number_from (10 * v + d) w
  unfolding number_with number_from
  digit_read_lem v d w r = by (leb (10 * v + d) 65535) refl
    where
      by : (t : Bool) → leb (10 * v + d) 65535 ≡ t → word_after marks (cond t (Number (10 * v + d)) Unreadable) w ≡ number_from (10 * v + d) w
      by true e = r (leb-true (10 * v + d) 65535 e)
      by false e =
          let over : 65535 < value_from (10 * v + d) w = omega (arith, leb-false (10 * v + d) 65535 e, value_grows w (10 * v + d)) in
          unreadable_stays w ∙ sym (simp (lt-leb (value_from (10 * v + d) w) 65535 over, and-false (every is_digit w)))

  number_read : (w : List ℕ) (v : ℕ) → v ≤ 65535 → word_after marks (Number v) w ≡ number_from v w
  unfolding word_after next_word with_digit number_from every value_from
  number_read [] v h = rw (le-leb v 65535 h)
  number_read (c ∷ w) v h = by (is_digit c) (eqb c hyphen && marks) (digit_read_lem v (c - 48) w (number_read w (10 * v + (c - 48))))
    where
      n : ℕ
      n = 10 * v + (c - 48)

      by : (t u : Bool) → word_after marks (number_with v (c - 48)) w ≡ number_from n w
          → word_after marks (cond t (number_with v (c - 48)) (cond u Unreadable Unreadable)) w
          ≡ cond (t && every is_digit w && leb (value_from n w) 65535) (Number (value_from n w)) Unreadable
      by true u r = r
      by false true r = unreadable_stays w
      by false false r = unreadable_stays w

  -- ---- a whole word

  mark_read : (c : ℕ) (w : List ℕ) → word_after marks (cond (eqb c hyphen && marks) (Number missing_mark) Unreadable) w ≡ cond (marks && is_mark (c ∷ w)) (Number missing_mark) Unreadable
  unfolding word_after is_mark
  mark_read c [] = rw (and_comm (eqb c hyphen) marks)
  mark_read c (d ∷ w) = rw (and-false marks) (by (eqb c hyphen && marks))
    where
      by : (t : Bool) → word_after marks (cond t (Number missing_mark) Unreadable) (d ∷ w) ≡ Unreadable
      by true = mark_alone d w
      by false = unreadable_stays (d ∷ w)

  word_read : (c : ℕ) (w : List ℕ) → word_after marks Empty (c ∷ w) ≡ judged_word (is_number (c ∷ w)) (marks && is_mark (c ∷ w)) (value_from 0 (c ∷ w))
  unfolding word_after next_word with_digit number_from every value_from is_number judged_word
  word_read c w = by (is_digit c) refl
    where
      by : (t : Bool) → is_digit c ≡ t
          → word_after marks (cond t (number_with 0 (c - 48)) (cond (eqb c hyphen && marks) (Number missing_mark) Unreadable)) w
          ≡ judged_word (t && every is_digit w && leb (value_from (10 * 0 + (c - 48)) w) 65535) (marks && is_mark (c ∷ w)) (value_from (10 * 0 + (c - 48)) w)
      by true e = rw (digit_no_mark c w e, and-false marks) (digit_read_lem 0 (c - 48) w (number_read w (10 * 0 + (c - 48))))
      by false e = mark_read c w

  pub whole_is_word : (w : List ℕ) → is_whole (word_after marks Empty w) ≡ is_word marks w
  unfolding word_after is_word is_number is_mark judged_word
  whole_is_word [] = rw (and-false marks)
  whole_is_word (c ∷ w) = rw (word_read c w) (by (is_number (c ∷ w)) (marks && is_mark (c ∷ w)))
    where
      by : (n m : Bool) → is_whole (judged_word n m (value_from 0 (c ∷ w))) ≡ n || m
      by true m = refl
      by false true = refl
      by false false = refl

  pub value_of_word : (w : List ℕ) → is_word marks w ≡ true → tone_in (word_after marks Empty w) ≡ value_of w
  unfolding is_word is_number is_mark value_of judged_word
  value_of_word [] e = let z : ◌≡◌ {A = ℕ} 0 1 = cc (and-false marks) in absurd (omega arith)
  value_of_word (c ∷ w) e = rw (word_read c w) (by (is_number (c ∷ w)) refl (is_mark (c ∷ w)) refl e)
    where
      by : (n : Bool) → is_number (c ∷ w) ≡ n → (k : Bool) → is_mark (c ∷ w) ≡ k → n || marks && k ≡ true
          → tone_in (judged_word n (marks && k) (value_from 0 (c ∷ w))) ≡ cond k missing_mark (value_from 0 (c ∷ w))
      by true p true q e = let z : ◌≡◌ {A = ℕ} 0 1 = cc (number_no_mark c w p) in absurd (omega arith)
      by true p false q e = refl
      by false p true q e = rw e
      by false p false q e = let z : ◌≡◌ {A = ℕ} 0 1 = cc (and-false marks) in absurd (omega arith)
