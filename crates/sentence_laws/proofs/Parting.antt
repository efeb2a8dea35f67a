-- Patterns that part have no text in common.
use mathlib.Core.Path.{◌≡◌, refl, sym, ◌∙◌, ap}
use mathlib.Core.Bool.{Bool, true, false, not, ◌&&◌, ◌||◌, and-eq-true_iff}
use mathlib.Core.List.{List, [], ◌∷◌, ◌++◌}
use Prim.Native.Nat.{ℕ}
use borrow.Author.Tests.{eqb-false, not-true}
use lib.Dec.{eqb}
use Rattle.sentence.specs.Patterns.{filled}
use Rattle.sentence.specs.Condition.{is_mark, is_pattern, part}
use Rattle.sentence.specs.Reading.{matched}
use Rattle.sentence_laws.proofs.Filling.{text_byte}
use Rattle.sentence_laws.proofs.Matching.{match_agrees}

texts_differ : (a b c d : ℕ) (ps qs : List ℕ) → part ps qs ≡ true → filled a b ps ≡ filled c d qs → ⊥
unfolding part filled
texts_differ a b c d [] qs e h = cc
texts_differ a b c d (p ∷ ps) [] e h = cc
texts_differ a b c d (p ∷ ps) (q ∷ qs) e h = by (eqb p q) refl both.1 (texts_differ a b c d ps qs)
  where
    both : (not (is_mark p) && not (is_mark q) ≡ true) × (not (eqb p q) || part ps qs ≡ true)
    both = (and-eq-true_iff (not (is_mark p) && not (is_mark q)) (not (eqb p q) || part ps qs)).0 e

    marks : (not (is_mark p) ≡ true) × (not (is_mark q) ≡ true)
    marks = (and-eq-true_iff (not (is_mark p)) (not (is_mark q))).0 both.0

    bytes : p ∷ filled a b ps ≡ q ∷ filled c d qs
    bytes =
        ap (λ (l : List ℕ). l ++ filled a b ps) (sym (text_byte a b p (not-true (is_mark p) marks.0)))
        ∙ h
        ∙ ap (λ (l : List ℕ). l ++ filled c d qs) (text_byte c d q (not-true (is_mark q) marks.1))

    by : (t : Bool) → eqb p q ≡ t → not t || part ps qs ≡ true → (part ps qs ≡ true → filled a b ps ≡ filled c d qs → ⊥) → ⊥
    by true f g r = r g (cc bytes)
    by false f g r = eqb-false p q f (cc bytes)

-- a text of one pattern is no whole match of another
pub parted_not_whole : (ps qs : List ℕ) (q l : ℕ) → is_pattern ps ≡ true → part ps qs ≡ true → (matched ps (filled q l qs)).whole ≡ false
parted_not_whole ps qs q l pattern parts = by (matched ps bytes).whole refl
  where
    bytes : List ℕ
    bytes = filled q l qs

    by : (t : Bool) → (matched ps bytes).whole ≡ t → t ≡ false
    by false e = refl
    by true e = absurd (texts_differ _ _ q l ps qs parts (sym ((match_agrees ps pattern bytes).all e)))
