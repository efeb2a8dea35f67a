-- Reading the bytes of a line one after the other gives what is defined of the whole line: the law of reading.
use mathlib.Core.Path.{◌≡◌, refl, sym, ◌∙◌, ap}
use mathlib.Core.Bool.{Bool, true, false, cond, ◌&&◌, and-eq-true_iff}
use mathlib.Core.List.{List, [], ◌∷◌, ◌++◌, map, append_assoc}
use Prim.Native.Nat.{ℕ, zero, suc, ◌+◌, ◌<◌, ◌≤◌, min}
use native.Mathlib.Decide.{dec_lt}
use native.Mathlib.Omega.{arith}
use borrow.Author.Tests.{ne_eqb}
use lib.Dec.{eqb}
use lib.ListN.{length, take, set, length-append, length-set, length-take}
use lib.Seq.{take_all, take-take, take-append-le, take-set-le, take-suc-set}
use Rattle.lists.specs.Lists.{every}
use Rattle.text.specs.Ascii.{space}
use Rattle.reader.specs.declared.Word.{Word}
use Rattle.reader.specs.declared.Word.TheVariants.{Empty, Unreadable}
use Rattle.reader.specs.declared.Line.{Line}
use Rattle.reader_laws.specs.Input.{on_first, parts, words, is_word, value_of, values_of}
use Rattle.reader.specs.Reader.{next_word, is_whole, is_empty, tone_in, fresh, word_end, kept_tone, next_line, next_tones, is_blank, line_end, end_tones, read_line, read_tones}
use Rattle.reader_laws.specs.Laws.{Reading}
use Rattle.reader.proofs.ReaderCases.{whole_ends, other_ends, begun_ends}
use Rattle.reader_laws.proofs.WordReading.{word_after, byte_not_empty, unreadable_stays, whole_is_word, value_of_word}

-- ---- the parts of a line

-- what stands before the first space
unfoldable first : List ℕ → List ℕ
first [] = []
first (c ∷ cs) = cond (eqb c space) [] (c ∷ first cs)

-- the parts after it
unfoldable rest : List ℕ → List (List ℕ)
rest [] = []
rest (c ∷ cs) = cond (eqb c space) (first cs ∷ rest cs) (rest cs)

parts_split : (cs : List ℕ) → parts cs ≡ first cs ∷ rest cs
unfolding parts first rest on_first
parts_split [] = refl
parts_split (c ∷ cs) = rw (parts_split cs) (by (eqb c space))
  where
    by : (t : Bool) → cond t ([] ∷ first cs ∷ rest cs) ((c ∷ first cs) ∷ rest cs) ≡ cond t [] (c ∷ first cs) ∷ cond t (first cs ∷ rest cs) (rest cs)
    by true = refl
    by false = refl

-- ---- lists cut at a length

take_front : (n : ℕ) (xs ys : List ℕ) → take n (take n xs ++ ys) ≡ take n (xs ++ ys)
take_front zero xs ys = refl
take_front (suc n) [] ys = refl
take_front (suc n) (x ∷ xs) ys = ap (λ (l : List ℕ). x ∷ l) (take_front n xs ys)

-- a tone kept at place k, if k is within the first 255
front_set : (tones : List ℕ) (k v : ℕ) → k ≤ 255 → length tones ≡ 256 → take (min (k + 1) 255) (set tones k v) ≡ take 255 (take k tones ++ (v ∷ []))
front_set tones k v low size = by (dec_lt k 255)
  where
    by : Dec (k < 255) → take (min (k + 1) 255) (set tones k v) ≡ take 255 (take k tones ++ (v ∷ []))
    by (yes l) =
        let e : min (k + 1) 255 ≡ suc k = omega arith in
        let short : length (take k tones ++ (v ∷ [])) ≤ 255 = simp (length-append, length-take) (omega arith) in
        rw (e, take_all 255 (take k tones ++ (v ∷ [])) short) (take-suc-set tones k v (omega arith))
    by (no g) =
        let e : k ≡ 255 = omega arith in
        let full : 255 ≤ length (take 255 tones) = simp length-take (omega arith) in
        rw e (take-set-le 255 tones 255 v (omega arith) ∙ sym (take-append-le 255 (take 255 tones) (v ∷ []) full ∙ take-take 255 255 tones (omega arith)))

-- ---- the end of a word

abbrev next_empty : Line → Line
next_empty line = record { word = Empty; count = min (line.count + 1) 255 }

abbrev now_unreadable : Line → Line
now_unreadable line = record { word = Unreadable; count = line.count }

module _ (marks : Bool) where
  -- a part is a word, as it is read
  unfoldable whole : List ℕ → Bool
  whole w = is_whole (word_after marks Empty w)

  -- whether a word's state, the bytes up to a space, and the parts after it are words
  unfoldable whole_from : Word → List ℕ → Bool
  whole_from s cs = is_whole (word_after marks s (first cs)) && every whole (rest cs)

  -- the line's state at its end
  unfoldable ended : Line → List ℕ → Line
  ended line cs = word_end (read_line marks line cs)

  unreadable_from : (cs : List ℕ) → whole_from Unreadable cs ≡ false
  unfolding whole_from
  unreadable_from cs = rw (unreadable_stays marks (first cs))

  -- ---- one byte more, which is a space or not

  abbrev next_if : Bool → Line → ℕ → Line
  next_if isSpace line c = cond isSpace (word_end line) (record { word = next_word marks line.word c; count = line.count })

  abbrev whole_if : Bool → Line → ℕ → List ℕ → Bool
  whole_if isSpace line c cs = is_whole (word_after marks line.word (cond isSpace [] (c ∷ first cs))) && every whole (cond isSpace (first cs ∷ rest cs) (rest cs))

  readable_from : (cs : List ℕ) (line : Line) → is_empty (ended line cs).word ≡ whole_from line.word cs
  unfolding ended whole_from whole word_after first rest every read_line next_line
  readable_from [] line = by (is_whole line.word) refl
    where
      by : (u : Bool) → is_whole line.word ≡ u → is_empty (word_end line).word ≡ is_whole line.word && true
      by true e = rw ((whole_ends line [] e).0, e)
      by false e = rw ((other_ends line [] e).0, e)
  readable_from (c ∷ cs) line = by (eqb c space) (is_whole line.word) refl (readable_from cs)
    where
      by : (t u : Bool) → is_whole line.word ≡ u → ((l : Line) → is_empty (ended l cs).word ≡ whole_from l.word cs)
          → is_empty (ended (next_if t line c) cs).word ≡ whole_if t line c cs
      by true true e r = rw ((whole_ends line [] e).0, e) (r (next_empty line))
      by true false e r = rw ((other_ends line [] e).0, e) (r (now_unreadable line) ∙ unreadable_from cs)
      by false u e r = r (next_if false line c)

  count_from : (cs : List ℕ) (line : Line) → whole_from line.word cs ≡ true → (ended line cs).count ≡ min (line.count + 1 + length (rest cs)) 255
  unfolding ended whole_from whole word_after first rest every read_line next_line
  count_from [] line h = rw (whole_ends line [] ((and-eq-true_iff (is_whole line.word) true).0 h).0).0 (omega arith)
  count_from (c ∷ cs) line h = by (eqb c space) (count_from cs) h
    where
      by : (t : Bool) → ((l : Line) → whole_from l.word cs ≡ true → (ended l cs).count ≡ min (l.count + 1 + length (rest cs)) 255)
          → whole_if t line c cs ≡ true
          → (ended (next_if t line c) cs).count ≡ min (line.count + 1 + length (cond t (first cs ∷ rest cs) (rest cs))) 255
      by true r h =
          let both = (and-eq-true_iff (is_whole line.word) (whole_from Empty cs)).0 h in
          rw (whole_ends line [] both.0).0 (r (next_empty line) both.1 ∙ omega arith)
      by false r h = r (next_if false line c) h

  -- the tone of a part, as it is read
  unfoldable tone_read : List ℕ → ℕ
  tone_read w = tone_in (word_after marks Empty w)

  -- the tones that stand before a word's end, its own, and those of the parts after it
  unfoldable tones_from : Line → List ℕ → List ℕ → List ℕ
  tones_from line cs tones = take line.count tones ++ (tone_in (word_after marks line.word (first cs)) ∷ map tone_read (rest cs))

  -- the tones that are kept at its end
  unfoldable ended_tones : Line → List ℕ → List ℕ → List ℕ
  ended_tones line cs tones = take (ended line cs).count (kept_tone (read_line marks line cs) (read_tones marks line cs tones))

  kept_from : (cs : List ℕ) (line : Line) (tones : List ℕ) → whole_from line.word cs ≡ true → line.count ≤ 255 → length tones ≡ 256
      → ended_tones line cs tones ≡ take 255 (tones_from line cs tones)
  unfolding ended whole_from whole word_after first rest every read_line next_line read_tones next_tones tones_from tone_read ended_tones
  kept_from [] line tones h low size =
      let e = ((and-eq-true_iff (is_whole line.word) true).0 h).0 in
      rw ((whole_ends line tones e).0, (whole_ends line tones e).1) (front_set tones line.count (tone_in line.word) low size)
  kept_from (c ∷ cs) line tones h low size = by (eqb c space) (kept_from cs) h
    where
      tone : ℕ
      tone = tone_in line.word

      after : List ℕ
      after = tone_read (first cs) ∷ map tone_read (rest cs)

      by : (t : Bool)
          → ((l : Line) (x : List ℕ) → whole_from l.word cs ≡ true → l.count ≤ 255 → length x ≡ 256 → ended_tones l cs x ≡ take 255 (tones_from l cs x))
          → whole_if t line c cs ≡ true
          → ended_tones (next_if t line c) cs (cond t (kept_tone line tones) tones)
          ≡ take 255 (take line.count tones ++ (tone_in (word_after marks line.word (cond t [] (c ∷ first cs))) ∷ map tone_read (cond t (first cs ∷ rest cs) (rest cs))))
      by true r h =
          let both = (and-eq-true_iff (is_whole line.word) (whole_from Empty cs)).0 h in
          let ends = whole_ends line tones both.0 in
          rw (ends.0, ends.1)
          (r (next_empty line) (set tones line.count tone) both.1 (omega arith) (length-set tones line.count tone ∙ size)
          ∙ ap (λ (x : List ℕ). take 255 (x ++ after)) (front_set tones line.count tone low size)
          ∙ take_front 255 (take line.count tones ++ (tone ∷ [])) after
          ∙ ap (take 255) (append_assoc (take line.count tones) (tone ∷ []) after))
      by false r h = r (next_if false line c) tones h low size

  -- ---- a line of which a byte was read is not blank

  pub next_not_blank : (line : Line) (c : ℕ) → is_blank (next_line marks line c) ≡ false
  unfolding next_line
  next_not_blank line c = by (eqb c space) (is_whole line.word) refl
    where
      by : (t u : Bool) → is_whole line.word ≡ u → is_blank (next_if t line c) ≡ false
      by true true e = rw (whole_ends line [] e).0 (ne_eqb (min (line.count + 1) 255) 0 (λ z. omega arith))
      by true false e = rw (other_ends line [] e).0
      by false u e = rw (byte_not_empty marks line.word c)

  read_not_blank : (cs : List ℕ) (line : Line) (c : ℕ) → is_blank (read_line marks line (c ∷ cs)) ≡ false
  unfolding read_line
  read_not_blank [] line c = next_not_blank line c
  read_not_blank (d ∷ cs) line c = read_not_blank cs (next_line marks line c) d

  -- ---- a whole line

  every_whole : (ws : List (List ℕ)) → every whole ws ≡ every (is_word marks) ws
  unfolding every whole
  every_whole [] = refl
  every_whole (w ∷ ws) = rw (whole_is_word marks w, every_whole ws)

  tones_read_lem : (ws : List (List ℕ)) → every (is_word marks) ws ≡ true → map tone_read ws ≡ map value_of ws
  unfolding every tone_read
  tones_read_lem [] h = refl
  tones_read_lem (w ∷ ws) h =
      let both = (and-eq-true_iff (is_word marks w) (every (is_word marks) ws)).0 h in
      rw (value_of_word marks w both.0, tones_read_lem ws both.1)

  module _ (c : ℕ) (cs : List ℕ) where
    words_whole : whole_from Empty (c ∷ cs) ≡ every (is_word marks) (words (c ∷ cs))
    unfolding whole_from whole words every
    words_whole = rw (parts_split (c ∷ cs)) (every_whole (first (c ∷ cs) ∷ rest (c ∷ cs)))

    line_ends : (tones : List ℕ) → (line_end (read_line marks fresh (c ∷ cs)) ≡ ended fresh (c ∷ cs))
        × (end_tones (read_line marks fresh (c ∷ cs)) tones ≡ kept_tone (read_line marks fresh (c ∷ cs)) tones)
    unfolding ended
    line_ends tones = begun_ends (read_line marks fresh (c ∷ cs)) tones (read_not_blank cs fresh c)

  line_readable : (line : List ℕ) → is_empty (line_end (read_line marks fresh line)).word ≡ every (is_word marks) (words line)
  unfolding line_end read_line words every
  line_readable [] = refl
  line_readable (c ∷ cs) = rw (line_ends c cs []).0 (readable_from (c ∷ cs) fresh ∙ words_whole c cs)

  line_count : (line : List ℕ) → every (is_word marks) (words line) ≡ true → (line_end (read_line marks fresh line)).count ≡ min (length (words line)) 255
  unfolding line_end read_line words
  line_count [] h = refl
  line_count (c ∷ cs) h = rw ((line_ends c cs []).0, parts_split (c ∷ cs)) (count_from (c ∷ cs) fresh (words_whole c cs ∙ h) ∙ omega arith)

  line_kept : (line tones : List ℕ) → length tones ≡ 256 → every (is_word marks) (words line) ≡ true
      → take (line_end (read_line marks fresh line)).count (end_tones (read_line marks fresh line) (read_tones marks fresh line tones)) ≡ take 255 (values_of line)
  unfolding line_end read_line words values_of tones_from tone_read ended_tones
  line_kept [] tones size h = refl
  line_kept (c ∷ cs) tones size h =
      let ok : every (is_word marks) (first (c ∷ cs) ∷ rest (c ∷ cs)) ≡ true = rw (parts_split (c ∷ cs)) at h in
      let ends = line_ends c cs (read_tones marks fresh (c ∷ cs) tones) in
      rw (ends.0, ends.1, parts_split (c ∷ cs))
      (kept_from (c ∷ cs) fresh tones (words_whole c cs ∙ h) (omega arith) size
      ∙ ap (take 255) (tones_read_lem (first (c ∷ cs) ∷ rest (c ∷ cs)) ok))

pub reading : Reading
reading = record { readable = line_readable; count = line_count; kept = line_kept }
