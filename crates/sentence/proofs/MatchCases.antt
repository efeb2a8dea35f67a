-- A loop that matches bytes with a pattern: what is known before each turn, a turn, and its ends.
use mathlib.Core.Path.{◌≡◌, refl, sym, ◌∙◌, ap}
use mathlib.Core.Bool.{Bool, true, false, cond}
use mathlib.Core.List.{List, [], ◌∷◌}
use Prim.Native.Nat.{ℕ, suc, ◌+◌, ◌-◌, ◌<◌, ◌≤◌}
use native.Mathlib.Numerals.{add-one}
use native.Mathlib.Omega.{arith}
use borrow.Author.Tests.{eqb-true, eqb-false, eq-eqb, ne_eqb}
use borrow.Author.Rules.{part_to_end}
use Rattle.std.proofs.Common.{Option, Some, None, Ok, Err}
use lib.Dec.{eqb}
use lib.ListN.{length, take, drop, get_or, length-drop}
use lib.Seq.{drop-cons, drop-length, drop-drop}
use Rattle.sentence.specs.Patterns.{place_mark, lead_mark, is_empty, has}
use Rattle.sentence.specs.Condition.{is_mark, is_pattern}
use Rattle.sentence.specs.Reading.{Scanned, Match, piece, no_match, joined, with_piece, matched}
use Rattle.sentence.specs.Internal.{taken, told}
use Rattle.sentence.proofs.Pieces.{piece_inside}
use Rattle.sentence.proofs.Marks.{Pattern, pattern, match_no_place, match_no_lead}

-- ---- what a piece and a match are told as

pub told_piece : (s : Scanned) (n v : ℕ) → Some (n, v) ≡ taken s → (record { count = n; value = v } ≡ s) × (n ≡ 0 → ⊥)
unfolding taken
told_piece s n v e = by (eqb s.count 0) refl e
  where
    by : (t : Bool) → eqb s.count 0 ≡ t → Some (n, v) ≡ cond {A = Option (ℕ × ℕ)} t None (Some (s.count, s.value))
        → (record { count = n; value = v } ≡ s) × (n ≡ 0 → ⊥)
    by true f g = absurd cc
    by false f g =
        let same : ◌≡◌ {A = ℕ × ℕ} (n, v) (s.count, s.value) = cc in
        let count : n ≡ s.count = ap (λ (x : ℕ × ℕ). x.0) same in
        let value : v ≡ s.value = ap (λ (x : ℕ × ℕ). x.1) same in
        (rw (count, value), λ z. eqb-false s.count 0 f (sym count ∙ z))

pub told_none : (s : Scanned) → None ≡ taken s → s.count ≡ 0
unfolding taken
told_none s e = by (eqb s.count 0) refl e
  where
    by : (t : Bool) → eqb s.count 0 ≡ t → None ≡ cond {A = Option (ℕ × ℕ)} t None (Some (s.count, s.value)) → s.count ≡ 0
    by true f g = eqb-true s.count 0 f
    by false f g = absurd cc

-- a number where its mark stands, and elsewhere
pub marked : (p mark v n : ℕ) → p ≡ mark → v ≡ cond (eqb p mark) v n
marked p mark v n e = rw (eq-eqb p mark e)

pub unmarked : (p mark v n : ℕ) → (p ≡ mark → ⊥) → n ≡ cond (eqb p mark) v n
unmarked p mark v n e = rw (ne_eqb p mark e)

pub elsewhere : (p mark other v n : ℕ) → p ≡ other → eqb other mark ≡ false → n ≡ cond (eqb p mark) v n
elsewhere p mark other v n e f = rw (e, f)

-- ---- a loop over a pattern

-- a match that goes on after at bytes, in which place and lead were found
abbrev gone_on : ℕ → ℕ → ℕ → Match → Match
gone_on at place lead m = record { shared = at + m.shared; whole = m.whole; place = place + m.place; lead = lead + m.lead }

module _ (ps bytes : List ℕ) where
  -- the first i bytes of the pattern took at bytes; a number is found only once
  pub record Passed (i at place lead : ℕ) : Type 0 where
    pub inside : at ≤ length bytes
    pub rest : is_pattern (drop i ps) ≡ true
    pub place_later : has place_mark (drop i ps) ≡ true → place ≡ 0
    pub lead_later : has lead_mark (drop i ps) ≡ true → lead ≡ 0
    pub same : matched ps bytes ≡ gone_on at place lead (matched (drop i ps) (drop at bytes))

  module _ (i at place lead : ℕ) (passed : Passed i at place lead) where
    -- what follows adds nothing
    ended : (m : Match) → m.shared ≡ 0 → m.place ≡ 0 → m.lead ≡ 0 → matched (drop i ps) (drop at bytes) ≡ m
        → record { shared = at; whole = m.whole; place = place; lead = lead } ≡ matched ps bytes
    ended m s p l e =
        let shared-none : at + m.shared ≡ at = omega arith in
        let place_none : place + m.place ≡ place = omega arith in
        let lead_none : lead + m.lead ≡ lead = omega arith in
        sym (passed.same ∙ ap (gone_on at place lead) e ∙ (rw (shared-none, place_none, lead_none)))

    none_left : is_empty (drop at bytes) ≡ eqb at (length bytes)
    unfolding is_empty
    none_left = by (drop at bytes) (length-drop at bytes)
      where
        by : (l : List ℕ) → length l ≡ length bytes - at → is_empty l ≡ eqb at (length bytes)
        by [] e = sym (eq-eqb at (length bytes) (omega (arith, passed.inside)))
        by (c ∷ l) e = sym (ne_eqb at (length bytes) (λ h. omega arith))

    at_end : i ≡ length ps → record { shared = at; whole = eqb at (length bytes); place = place; lead = lead } ≡ matched ps bytes
    unfolding matched
    at_end e =
        let last : matched (drop i ps) (drop at bytes) ≡ record { shared = 0; whole = is_empty (drop at bytes); place = 0; lead = 0 } =
        rw (e, drop-length ps) in
        ap (λ (t : Bool). record { shared = at; whole = t; place = place; lead = lead }) (sym none_left)
        ∙ ended (record { shared = 0; whole = is_empty (drop at bytes); place = 0; lead = 0 }) refl refl refl last

    pub match_whole : i ≡ length ps → at ≡ length bytes → Ok (place, lead) ≡ told (matched ps bytes)
    unfolding told
    match_whole e f = ap told (rw (eq-eqb at (length bytes) f) at (at_end e))

    pub match_part : i ≡ length ps → (at ≡ length bytes → ⊥) → Err at ≡ told (matched ps bytes)
    unfolding told
    match_part e f = ap told (rw (ne_eqb at (length bytes) f) at (at_end e))

    module _ (h : i < length ps) (s : Scanned) (taken : s ≡ piece (get_or ps i 0) (take (length bytes - at) (drop at bytes))) where
      p : ℕ
      p = get_or ps i 0

      later : List ℕ
      later = drop (suc i) ps

      is_first : drop i ps ≡ p ∷ later
      unfolding p later
      is_first = drop-cons ps i 0 h

      taken_here : s ≡ piece p (drop at bytes)
      unfolding p
      taken_here = taken ∙ ap (piece (get_or ps i 0)) (part_to_end bytes at)

      here : matched (drop i ps) (drop at bytes) ≡ with_piece p s (matched later (drop s.count (drop at bytes)))
      unfolding matched
      here = ap (λ (l : List ℕ). matched l (drop at bytes)) is_first ∙ (rw (← taken_here))

      pub match_stops : s.count ≡ 0 → Err at ≡ told (matched ps bytes)
      unfolding with_piece told
      match_stops z =
          let none : with_piece p s (matched later (drop s.count (drop at bytes))) ≡ no_match = rw (eq-eqb s.count 0 z) in
          ap told (ended no_match refl refl refl (here ∙ none))

      parts : Pattern p later
      parts = pattern p later (rw is_first at passed.rest)

      -- a mark that stands here stands nowhere later, and its number was not found before
      module _ (mark number : ℕ) (is-mark : is_mark mark ≡ true) (not_found : has mark (drop i ps) ≡ true → number ≡ 0) where
        once : eqb p mark ≡ true → has mark later ≡ false
        once e =
            let here : p ≡ mark = eqb-true p mark e in
            rw here at (parts.once (rw here is-mark))

        found_now : eqb p mark ≡ true → number ≡ 0
        unfolding has
        found_now e = not_found (rw (is_first, e))

        found_later : (v : ℕ) → has mark later ≡ true → cond (eqb p mark) v number ≡ 0
        unfolding has
        found_later v l = by (eqb p mark) refl
          where
            by : (t : Bool) → eqb p mark ≡ t → cond t v number ≡ 0
            by true e = absurd (cc (once e))
            by false e = not_found (rw (is_first, e) l)

        number_sum : (v n : ℕ) → (has mark later ≡ false → n ≡ 0) → number + cond (eqb p mark) v n ≡ cond (eqb p mark) v number + n
        number_sum v n none = by (eqb p mark) refl
          where
            by : (t : Bool) → eqb p mark ≡ t → number + cond t v n ≡ cond t v number + n
            by true e = omega (arith, found_now e, none (once e))
            by false e = refl

      abbrev left : List ℕ
      left = drop (at + s.count) bytes

      pub match_more : (s.count ≡ 0 → ⊥)
          → Passed (i + 1) (at + s.count) (cond (eqb (get_or ps i 0) place_mark) s.value place) (cond (eqb (get_or ps i 0) lead_mark) s.value lead)
      unfolding p later with_piece is_mark
      match_more some =
          let more = matched later left in
          let size : at + (s.count + more.shared) ≡ at + s.count + more.shared = omega arith in
          let goes_on : matched (drop i ps) (drop at bytes) ≡ joined p s more =
          here ∙ (rw (ne_eqb s.count 0 some, drop-drop s.count at bytes)) in
          rw (add-one i) (record {
            inside = omega (arith, passed.inside, ap (λ (x : Scanned). x.count) taken_here, piece_inside p (drop at bytes), length-drop at bytes);
            rest = parts.rest;
            place_later = found_later place_mark place refl passed.place_later s.value;
            lead_later = found_later lead_mark lead refl passed.lead_later s.value;
            same = passed.same
                ∙ ap (gone_on at place lead) goes_on
                ∙ (rw (
                  size,
                  number_sum place_mark place refl passed.place_later s.value more.place (match_no_place later left),
                  number_sum lead_mark lead refl passed.lead_later s.value more.lead (match_no_lead later left),
                ));
          })
