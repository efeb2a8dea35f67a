-- What the range check finds and looks at, where it stops and where it ends; and the law.
use Rattle.std.proofs.Common.{◌≡◌, ℕ, ◌+◌, ◌<◌, List, ◌++◌, length, sym, refl, ap, ◌∙◌, arith, length-append, le-ltb, lt-ltb, Option, Some, None}
use lib.ListN.{get_or-append}
use Rattle.lists.specs.Found.{found}
use Rattle.lists.proofs.Places.{first_is, first_at}
use Rattle.lists.proofs.Found.{found_at, found_past}
use Rattle.tone_range.specs.Range.{bad_tone, first_bad_tone, looked_at, range_of}
use Rattle.tone_range.specs.Laws.{Stops}
use Rattle.tone_range.specs.declared.Looked.{Looked}

module _ (limit : ℕ) (tones : List ℕ) where
  same_looked : (n : Option ℕ) (k : ℕ) → found (length tones) (first_bad_tone limit tones) ≡ n → looked_at limit tones ≡ k
      → ◌≡◌ {A = Looked} (record { bad = n; looked = k }) (range_of limit tones)
  unfolding range_of
  same_looked n k p q = λ i. record { bad = sym p i; looked = sym q i }

  pub bad_found : {r : Looked} → r ≡ range_of limit tones → r.bad ≡ found (length tones) (first_bad_tone limit tones)
  unfolding range_of
  bad_found e = ap (λ (x : Looked). x.bad) e

  pub looked_found : {r : Looked} → r ≡ range_of limit tones → r.looked ≡ looked_at limit tones
  unfolding range_of
  looked_found e = ap (λ (x : Looked). x.looked) e

  pub looked_up_to : (t k : ℕ) → t < length tones → first_bad_tone limit tones ≡ t → k ≡ t + 1
      → ◌≡◌ {A = Looked} (record { bad = Some t; looked = k }) (range_of limit tones)
  unfolding looked_at
  looked_up_to t k l e c = same_looked (Some t) k (rw e (found_at (length tones) t l)) (rw (e, lt-ltb t (length tones) l) (sym c))

  pub looked_at_all : (k : ℕ) → first_bad_tone limit tones ≡ length tones → k ≡ length tones
      → ◌≡◌ {A = Looked} (record { bad = None; looked = k }) (range_of limit tones)
  unfolding looked_at
  looked_at_all k e c = same_looked None k (rw e (found_past (length tones) _ (omega arith))) (rw (e, le-ltb (length tones) (length tones) (omega arith)) (sym c))

module _ (limit : ℕ) (tones rest : List ℕ) (h : first_bad_tone limit tones < length tones) where
  tone_before : (t : ℕ) → t < length tones → bad_tone limit (tones ++ rest) t ≡ bad_tone limit tones t
  tone_before t l = rw (get_or-append tones rest 0 t l)

  bad_before : first_bad_tone limit (tones ++ rest) ≡ first_bad_tone limit tones
  unfolding first_bad_tone
  bad_before =
      let f = first_is (bad_tone limit tones) (length tones) in
      let s = first_bad_tone limit tones in
      first_at (bad_tone limit (tones ++ rest)) (length (tones ++ rest)) s (omega (arith, length-append tones rest))
      (tone_before s h ∙ f.holds h)
      (λ k l. tone_before k (omega arith) ∙ f.lowest k l)

  pub unseen : range_of limit (tones ++ rest) ≡ range_of limit tones
  unseen =
      sym (looked_up_to limit (tones ++ rest) (first_bad_tone limit tones) _ (omega (arith, length-append tones rest)) bad_before refl)
      ∙ looked_up_to limit tones (first_bad_tone limit tones) _ h refl refl

pub stops : Stops
stops = record { unseen = unseen }
