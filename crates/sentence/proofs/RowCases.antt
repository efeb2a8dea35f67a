-- The functions that go through the rows of a table, over plain variables.
use Rattle.std.proofs.Common.{◌≡◌, refl, sym, ◌∙◌, ap, Bool, true, false, cond, List, [], ◌∷◌, ℕ, ◌+◌, ◌<◌, max, length, drop, get_or}
use Rattle.std.proofs.Common.{eqb, ltb, drop-cons, drop_of_length-le, add-one, arith, Result, nat_cmp, Less, Equal, Greater, is_lt, Ok, Err}
use Rattle.std.specs.Ordering.{ord_max}
use Rattle.std.proofs.lemmas.Bool.{ltb-true, ltb-false}
use borrow.Author.Tests.{eq-eqb, ne_eqb}
use Rattle.refusal.specs.declared.Reason.{Reason}
use Rattle.refusal.specs.Refused.{refused_at}
use Rattle.refusal.specs.Reasons.{reason_of}
use Rattle.refusal.proofs.Numbers.{number_back}
use Rattle.sentence.specs.declared.rows.Row.{Row as Entry}
use Rattle.sentence.specs.Patterns.{place_mark, is_empty, has}
use Rattle.sentence.specs.Sentences.{Row, number, pattern_in}
use Rattle.sentence.specs.Condition.{is_pattern, are_sound}
use Rattle.sentence.specs.Reading.{Match, matched, found, read_from}
use Rattle.sentence.specs.Internal.{listed, IsPatternOf, told}
use Rattle.sentence.proofs.Soundness.{IsRow, First, first}

-- ---- what a match is told as

told_whole : (m : Match) (place lead : ℕ) → told m ≡ Ok (place, lead) → (m.whole ≡ true) × (m.place ≡ place) × (m.lead ≡ lead)
unfolding told
told_whole m place lead e = by m.whole refl e
  where
    by : (t : Bool) → m.whole ≡ t → cond {A = Result (ℕ × ℕ) ℕ} t (Ok (m.place, m.lead)) (Err m.shared) ≡ Ok (place, lead)
        → (m.whole ≡ true) × (m.place ≡ place) × (m.lead ≡ lead)
    by true w f =
        let same : ◌≡◌ {A = ℕ × ℕ} (m.place, m.lead) (place, lead) = cc in
        (w, ap (λ (x : ℕ × ℕ). x.0) same, ap (λ (x : ℕ × ℕ). x.1) same)
    by false w f = absurd cc

told_part : (m : Match) (n : ℕ) → told m ≡ Err n → (m.whole ≡ false) × (m.shared ≡ n)
unfolding told
told_part m n e = by m.whole refl e
  where
    by : (t : Bool) → m.whole ≡ t → cond {A = Result (ℕ × ℕ) ℕ} t (Ok (m.place, m.lead)) (Err m.shared) ≡ Err n → (m.whole ≡ false) × (m.shared ≡ n)
    by true w f = absurd cc
    by false w f = (w, cc)

-- ---- one row before others

-- the library's `max` is that of numbers
pub max_is : (a b : ℕ) → ord_max nat_cmp a b ≡ max a b
max_is a b = by (ltb b a) refl (eqb b a)
  where
    by : (t : Bool) → ltb b a ≡ t → (s : Bool) → cond (is_lt (cond t Less (cond s Equal Greater))) a b ≡ max a b
    by true e s = omega (arith, ltb-true b a e)
    by false e true = omega (arith, ltb-false b a e)
    by false e false = omega (arith, ltb-false b a e)

module _ (r : Row) (rs : List Row) (best : ℕ) (bytes : List ℕ) where
  pub read_here : (matched r.pattern bytes).whole ≡ true → read_from (r ∷ rs) best bytes ≡ Ok (found r bytes)
  unfolding read_from
  read_here w = rw w

  pub read_later : (matched r.pattern bytes).whole ≡ false
      → read_from (r ∷ rs) best bytes ≡ read_from rs (max best (matched r.pattern bytes).shared) bytes
  unfolding read_from
  read_later w = rw w

has_some : (c : ℕ) (ps : List ℕ) → has c ps ≡ true → is_empty ps ≡ false
unfolding has is_empty
has_some c [] e = absurd cc
has_some c (p ∷ ps) e = refl

pub row_some : (n : ℕ) (ps : List ℕ) → IsRow n ps → is_empty ps ≡ false
row_some n ps row = has_some place_mark ps row.place

-- ---- a loop over a table

-- an entry as a row
abbrev pub row_at : List Entry → ℕ → Entry → Row
row_at table i d = record { reason = reason_of (get_or table i d).number; pattern = (get_or table i d).pattern.now }

goes_on : (table : List Entry) (i : ℕ) (d : Entry) → i < length table → listed (drop i table) ≡ row_at table i d ∷ listed (drop (i + 1) table)
goes_on table i d h = rw (add-one i) (ap listed (drop-cons table i d h))

sound_at : (table : List Entry) (i : ℕ) (d : Entry) → i < length table → are_sound (listed (drop i table)) ≡ true
    → First (row_at table i d) (listed (drop (i + 1) table))
sound_at table i d h e = first (row_at table i d) (listed (drop (i + 1) table)) (ap are_sound (sym (goes_on table i d h)) ∙ e)

-- ---- what bytes are read as

module _ (table : List Entry) (bytes : List ℕ) where
  -- the rows that are left decide it, where those before share best bytes
  pub record ReadLeft (i best : ℕ) : Type 0 where
    pub sound : are_sound (listed (drop i table)) ≡ true
    pub same : read_from (listed table) 0 bytes ≡ read_from (listed (drop i table)) best bytes

  pub read_none : (i best : ℕ) → ReadLeft i best → i ≡ length table → Err (refused_at Reason.Sentence best) ≡ read_from (listed table) 0 bytes
  unfolding read_from
  read_none i best r e = sym (r.same ∙ ap (λ (l : List Entry). read_from (listed l) best bytes) (drop_of_length-le table (omega arith)))

  module _ (i best : ℕ) (r : ReadLeft i best) (d : Entry) (h : i < length table) where
    abbrev row : Row
    row = row_at table i d

    abbrev later : List Row
    later = listed (drop (i + 1) table)

    top : First row later
    top = sound_at table i d h r.sound

    from_row : read_from (listed table) 0 bytes ≡ read_from (row ∷ later) best bytes
    from_row = r.same ∙ ap (λ (l : List Row). read_from l best bytes) (goes_on table i d h)

    pub row_pattern : is_pattern (get_or table i d).pattern.now ≡ true
    row_pattern = top.row.pattern

    pub read_found : (place lead : ℕ) → Ok (place, lead) ≡ told (matched (get_or table i d).pattern.now bytes)
        → Ok (record { reason = reason_of (get_or table i d).number; place = place; lead = lead }) ≡ read_from (listed table) 0 bytes
    read_found place lead e =
        let t = told_whole (matched row.pattern bytes) place lead (sym e) in
        sym (from_row ∙ read_here row later best bytes t.0 ∙ (rw (t.1, t.2)))

    pub read_more : (shared : ℕ) → Err shared ≡ told (matched (get_or table i d).pattern.now bytes) → ReadLeft (i + 1) (max best shared)
    read_more shared e =
        let t = told_part (matched row.pattern bytes) shared (sym e) in
        record {
          sound = top.rest;
          same = from_row ∙ read_later row later best bytes t.0 ∙ ap (λ (n : ℕ). read_from later (max best n) bytes) t.1;
        }

-- ---- the pattern of a number

module _ (table : List Entry) (n : ℕ) where
  -- the rows that are left have the number's pattern
  pub record PatternLeft (i : ℕ) : Type 0 where
    pub sound : are_sound (listed (drop i table)) ≡ true
    pub same : pattern_in (listed table) n ≡ pattern_in (listed (drop i table)) n

  pub pattern_none : (i : ℕ) → PatternLeft i → i ≡ length table → pattern_in (listed table) n ≡ []
  unfolding pattern_in
  pattern_none i r e = r.same ∙ ap (λ (l : List Entry). pattern_in (listed l) n) (drop_of_length-le table (omega arith))

  module _ (i : ℕ) (r : PatternLeft i) (d : Entry) (h : i < length table) where
    abbrev entry : Row
    entry = row_at table i d

    abbrev rest : List Row
    rest = listed (drop (i + 1) table)

    first_left : First entry rest
    first_left = sound_at table i d h r.sound

    from_first : pattern_in (listed table) n ≡ pattern_in (entry ∷ rest) n
    from_first = r.same ∙ ap (λ (l : List Row). pattern_in l n) (goes_on table i d h)

    pub pattern_found : (get_or table i d).number ≡ n → IsPatternOf n (listed table) (get_or table i d).pattern.now
    unfolding pattern_in
    pattern_found e =
        let here : pattern_in (entry ∷ rest) n ≡ entry.pattern = rw (eq-eqb (number entry) n (number_back _ ∙ e)) in
        record { same = sym (from_first ∙ here); some = row_some (number entry) entry.pattern first_left.row }

    pub pattern_later : ((get_or table i d).number ≡ n → ⊥) → PatternLeft (i + 1)
    unfolding pattern_in
    pattern_later e = record { sound = first_left.rest; same = from_first ∙ (rw (ne_eqb (number entry) n (λ f. e (sym (number_back _) ∙ f)))) }
