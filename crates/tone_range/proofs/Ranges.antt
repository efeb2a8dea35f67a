-- The limits of tones, as the test finds them and as numbers.
use Rattle.std.proofs.Common.{◌≡◌, ℕ, ◌^◌, ◌<◌, ◌≤◌, Bool, true, false, not, ◌&&◌, eqb, leb, ◌⊎◌, List, length, refl, inl, inr, arith, eq-eqb, ne_eqb, eqb-true, le-leb, leb-false}
use borrow.Author.Tests.{lt-leb}
use Rattle.lists.specs.Lists.{num}
use Rattle.lists.proofs.Places.{first_is, first_none}
use Rattle.chain.specs.Chain.{missing_mark}
use Rattle.tone_range.specs.Range.{HasTones, bad_tone, first_bad_tone}

module _ (limit : ℕ) (tones : List ℕ) where
  pub tones_most : first_bad_tone limit tones ≤ length tones
  unfolding first_bad_tone
  tones_most = (first_is (bad_tone limit tones) (length tones)).within

  pub tones_good : length tones ≤ first_bad_tone limit tones → (t : ℕ) → t < length tones → bad_tone limit tones t ≡ false
  unfolding first_bad_tone
  tones_good h t l = (first_is (bad_tone limit tones) (length tones)).lowest t (omega arith)

  pub good_tones : ((t : ℕ) → t < length tones → bad_tone limit tones t ≡ false) → length tones ≤ first_bad_tone limit tones
  unfolding first_bad_tone
  good_tones h = omega (arith, first_none (bad_tone limit tones) (length tones) h)

-- ---- 64 tones of a mode

pub good_tone : (limit n : ℕ) → (n < limit) ⊎ (n ≡ missing_mark) → leb limit n && not (eqb n missing_mark) ≡ false
good_tone limit n (inl l) = rw (lt-leb limit n l)
good_tone limit n (inr e) = rw (eq-eqb n missing_mark e) (and_false_right (leb limit n))
  where
    and_false_right : (s : Bool) → s && false ≡ false
    and_false_right true = refl
    and_false_right false = refl

pub bad_tone_lem : (limit n : ℕ) → limit ≤ n → (n ≡ missing_mark → ⊥) → leb limit n && not (eqb n missing_mark) ≡ true
bad_tone_lem limit n h e = rw (le-leb limit n h, ne_eqb n missing_mark e)

pub tone_good : (limit n : ℕ) → leb limit n && not (eqb n missing_mark) ≡ false → (n < limit) ⊎ (n ≡ missing_mark)
tone_good limit n e = by (leb limit n) refl (eqb n missing_mark) refl e
  where
    by : (s : Bool) → leb limit n ≡ s → (t : Bool) → eqb n missing_mark ≡ t → s && not t ≡ false → (n < limit) ⊎ (n ≡ missing_mark)
    by false p t q e = inl (leb-false limit n p)
    by true p true q e = inr (eqb-true n missing_mark q)
    by true p false q e = let z : ◌≡◌ {A = ℕ} 0 1 = cc in absurd (omega arith)

module _ (b : ℕ) (tones : List ℕ) where
  pub tones_in_range : HasTones (2 ^ b) tones → 64 ≤ first_bad_tone (2 ^ b) tones
  tones_in_range h =
      omega (arith, h.count, good_tones (2 ^ b) tones (λ t l. good_tone (2 ^ b) (num tones t) (h.each t (omega (arith, h.count)))))

  pub in_range_tones : length tones ≡ 64 → 64 ≤ first_bad_tone (2 ^ b) tones → HasTones (2 ^ b) tones
  in_range_tones n h = record {
    count = n;
    each = λ t l. tone_good (2 ^ b) (num tones t) (tones_good (2 ^ b) tones (omega arith) t (omega arith));
  }
