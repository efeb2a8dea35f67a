-- Matching bytes with a pattern: the text with the numbers found agrees with most bytes, and a text of the pattern is matched whole.
use mathlib.Core.Path.{◌≡◌, refl, sym, ◌∙◌, ap}
use mathlib.Core.Bool.{Bool, true, false, cond}
use mathlib.Core.List.{List, [], ◌∷◌, ◌++◌}
use Prim.Native.Nat.{ℕ, ◌+◌, ◌≤◌}
use native.Mathlib.Omega.{arith}
use lib.Dec.{eqb}
use lib.ListN.{length, take, drop, length-append, take-append-drop}
use lib.Seq.{length-take-le, drop-append_seam}
use Rattle.sentence.specs.Patterns.{place_mark, lead_mark, most_place, most_lead, piece_text, filled, is_empty, has}
use Rattle.sentence.specs.Condition.{is_pattern}
use Rattle.sentence.specs.Reading.{Scanned, Match, piece, no_match, joined, with_piece, matched}
use Rattle.sentence.proofs.Pieces.{Kind, kind, piece_inside}
use Rattle.sentence.proofs.Marks.{Pattern, pattern}
use Rattle.sentence_laws.proofs.Shared.{shared, shared_nothing, shared_after}
use Rattle.sentence_laws.proofs.Numbers.{reach}
use Rattle.sentence_laws.proofs.PieceTexts.{piece_taken, number_at, piece_whole, piece_most}
use Rattle.sentence_laws.proofs.Filling.{filled_ends, rest_same, text_some}

-- ---- one piece more

module _ (p : ℕ) (s : Scanned) (m : Match) where
  piece_none : eqb s.count 0 ≡ true → with_piece p s m ≡ no_match
  unfolding with_piece
  piece_none z = rw z

  piece_some : eqb s.count 0 ≡ false → with_piece p s m ≡ joined p s m
  unfolding with_piece
  piece_some z = rw z

-- the piece and the match of what follows it reach as far as both together
joined_reach : (p : ℕ) (ps bytes : List ℕ) (s : Scanned)
    → (with_piece p s (matched ps (drop s.count bytes))).shared ≡ reach s.count (λ b. (matched ps b).shared) bytes
unfolding with_piece reach
joined_reach p ps bytes s = by (eqb s.count 0)
  where
    more : Match
    more = matched ps (drop s.count bytes)

    by : (t : Bool) → (cond t no_match (joined p s more)).shared ≡ cond t 0 (s.count + more.shared)
    by true = refl
    by false = refl

-- ---- the texts of a pattern

-- what a text of a pattern is matched as
abbrev pub whole_match : ℕ → ℕ → List ℕ → Match
whole_match q l ps = record {
  shared = length (filled q l ps);
  whole = true;
  place = cond (has place_mark ps) q 0;
  lead = cond (has lead_mark ps) l 0;
}

module _ (q l : ℕ) (q-small : q ≤ most_place) (l-small : l ≤ most_lead) where
  -- none agrees with more bytes than the match says
  pub match_most : (ps : List ℕ) → is_pattern ps ≡ true → (bytes : List ℕ) → shared bytes (filled q l ps) ≤ (matched ps bytes).shared
  unfolding filled matched
  match_most [] e bytes = omega (arith, shared_nothing bytes)
  match_most (p ∷ ps) e bytes =
      let parts = pattern p ps e in
      rw (joined_reach p ps bytes (piece p bytes))
      (piece_most p q l (filled q l ps) (filled_ends q l p ps parts) q-small l-small (λ b. (matched ps b).shared) (match_most ps parts.rest) bytes)

  -- each is matched whole
  pub match_whole : (ps : List ℕ) → is_pattern ps ≡ true → matched ps (filled q l ps) ≡ whole_match q l ps
  unfolding matched filled has is_empty
  match_whole [] e = refl
  match_whole (p ∷ ps) e =
      ap (λ (s : Scanned). with_piece p s (matched ps (drop s.count (text ++ rest)))) (piece_whole p q l rest (filled_ends q l p ps parts) q-small l-small)
      ∙ ap (with_piece p now) (ap (matched ps) (drop-append_seam text rest) ∙ match_whole ps parts.rest)
      ∙ piece_some p now (whole_match q l ps) (text_some q l p)
      ∙ by (kind p)
    where
      parts : Pattern p ps
      parts = pattern p ps e

      text : List ℕ
      text = piece_text q l p

      rest : List ℕ
      rest = filled q l ps

      now : Scanned
      now = record { count = length text; value = number_at q l p }

      by : Kind p → joined p now (whole_match q l ps) ≡ whole_match q l (p ∷ ps)
      by (Kind.place f g) = rw (f, g, length-append text rest)
      by (Kind.lead f g) = rw (f, g, length-append text rest)
      by (Kind.text f g) = rw (f, g, length-append text rest)

-- ---- the text with the numbers found

-- it agrees with as many bytes as the match says, and is all of them if it says so
pub record Agrees (ps bytes : List ℕ) (m : Match) : Type 0 where
  pub reached : shared bytes (filled m.place m.lead ps) ≡ m.shared
  pub all : m.whole ≡ true → bytes ≡ filled m.place m.lead ps

pub match_agrees : (ps : List ℕ) → is_pattern ps ≡ true → (bytes : List ℕ) → Agrees ps bytes (matched ps bytes)
unfolding matched filled is_empty
match_agrees [] e bytes = record { reached = shared_nothing bytes; all = by bytes }
  where
    by : (b : List ℕ) → is_empty b ≡ true → b ≡ []
    by [] h = refl
    by (c ∷ b) h = absurd cc
match_agrees (p ∷ ps) e bytes = by (eqb s.count 0) refl (match_agrees ps parts.rest left)
  where
    parts : Pattern p ps
    parts = pattern p ps e

    s : Scanned
    s = piece p bytes

    taken : List ℕ
    taken = take s.count bytes

    left : List ℕ
    left = drop s.count bytes

    more : Match
    more = matched ps left

    both : Match
    both = joined p s more

    by : (t : Bool) → eqb s.count 0 ≡ t → Agrees ps left more → Agrees (p ∷ ps) bytes (with_piece p s more)
    by true z r =
        let none : with_piece p s more ≡ no_match = piece_none p s more z in
        rw none (record {
          reached = omega (arith, match_most 0 0 (omega arith) (omega arith) (p ∷ ps) e bytes, ap (λ (m : Match). m.shared) none);
          all = λ h. (absurd cc);
        })
    by false z r =
        let text : piece_text both.place both.lead p ≡ taken = piece_taken p both.place both.lead bytes z (λ h. rw h) (λ h. rw h) in
        let whole : filled both.place both.lead (p ∷ ps) ≡ taken ++ filled more.place more.lead ps =
        ap (λ (l : List ℕ). l ++ filled both.place both.lead ps) text ∙ ap (λ (l : List ℕ). taken ++ l) (rest_same p s.value ps more parts) in
        let halves : taken ++ left ≡ bytes = take-append-drop s.count bytes in
        let size : length taken ≡ s.count = length-take-le s.count bytes (piece_inside p bytes) in
        let seam : shared bytes (taken ++ filled more.place more.lead ps) ≡ s.count + more.shared =
        ap (λ (l : List ℕ). shared l (taken ++ filled more.place more.lead ps)) (sym halves)
        ∙ shared_after taken left (filled more.place more.lead ps)
        ∙ omega (arith, r.reached) in
        rw (piece_some p s more z) (record {
          reached = ap (shared bytes) whole ∙ seam;
          all = λ h. sym halves ∙ ap (λ (l : List ℕ). taken ++ l) (r.all h) ∙ sym whole;
        })
