-- A measurement in the band is in the stretch of one tone and of no other, and that tone is its owner.
use Rattle.std.proofs.Common.{None}
use mathlib.Core.Path.{◌≡◌, refl, sym, ◌∙◌}
use mathlib.Core.Bool.{Bool, true, false, true≢false, not}
use Prim.Native.Nat.{ℕ, zero, suc, ◌*◌, ◌^◌, ◌<◌, ◌≤◌}
use native.Mathlib.Nat.{mul-le-mul, mul-zero, le_refl}
use native.Mathlib.Decide.{dec_le}
use native.Mathlib.Omega.{arith}
use borrow.Author.Tests.{not-true}
use lib.Ieee.{Float}
use Rattle.lists.proofs.Places.{first_at}
use Rattle.scaled_order.specs.Order.{at_least}
use Rattle.scaled_order.proofs.Comparing.{both, smaller_least}
use Rattle.band.specs.Limits.{fault}
use Rattle.band.specs.Frequencies.{edge512, spacing512}
use Rattle.band.specs.Locating.{tone_edge512, owns, owner_of, upper512, in_band}
use Rattle.band.proofs.Settings.{within}
use Rattle.band.proofs.Formulas.{in_tones}

-- ---- the edges rise, from the band's lower edge to its upper

module _ (b w c : ℕ) where
  edges_rise : (m n : ℕ) → m ≤ n → tone_edge512 b w c m ≤ tone_edge512 b w c n
  unfolding tone_edge512
  edges_rise m n l =
      let more : spacing512 b w * m ≤ spacing512 b w * n = mul-le-mul (le_refl (spacing512 b w)) l in
      omega arith

  pub first_edge : tone_edge512 b w c 0 ≡ edge512 w c
  unfolding tone_edge512
  first_edge = omega (arith, mul-zero (spacing512 b w))

  pub past_last_edge : fault b w c 0 ≡ None → tone_edge512 b w c (2 ^ b) ≡ upper512 w c
  unfolding tone_edge512 upper512 edge512
  past_last_edge e =
      let h = within b w c 0 e in
      omega (arith, in_tones b h.mode_high w)

-- ---- the tones whose stretch holds x

module _ (b w c : ℕ) (x : Float) where
  abbrev reached : ℕ → Bool
  reached n = at_least (tone_edge512 b w c n) x

  earlier_reached : (m n : ℕ) → m ≤ n → reached n ≡ true → reached m ≡ true
  earlier_reached m n l = smaller_least (tone_edge512 b w c m) (tone_edge512 b w c n) x (edges_rise b w c m n l)

  pub owns_by : (n : ℕ) → reached n ≡ true → reached (suc n) ≡ false → owns b w c x n ≡ true
  unfolding owns
  owns_by n h k = rw (h, k)

  pub owned : (n : ℕ) → owns b w c x n ≡ true → (reached n ≡ true) × (reached (suc n) ≡ false)
  unfolding owns
  owned n h =
      let sides = both (reached n) (not (reached (suc n))) h in
      (sides.0, not-true (reached (suc n)) sides.1)

  no_later : (m n : ℕ) → owns b w c x m ≡ true → owns b w c x n ≡ true → m < n → ⊥
  no_later m n h k l = true≢false (sym (earlier_reached (suc m) n l (owned n k).0) ∙ (owned m h).1)

  pub one_owner : (m n : ℕ) → owns b w c x m ≡ true → owns b w c x n ≡ true → m ≡ n
  one_owner m n h k = by (dec_le m n) (dec_le n m)
    where
      by : Dec (m ≤ n) → Dec (n ≤ m) → m ≡ n
      by (yes p) (yes q) = omega arith
      by (yes p) (no q) = absurd (no_later m n h k (omega arith))
      by (no p) q = absurd (no_later n m k h (omega arith))

  pub owner_is : (n : ℕ) → n < 2 ^ b → owns b w c x n ≡ true → owner_of b w c x ≡ n
  unfolding owner_of
  owner_is n l h = first_at (owns b w c x) (2 ^ b) n l h (λ k g. by k g (owns b w c x k) refl)
    where
      by : (k : ℕ) → k < n → (t : Bool) → owns b w c x k ≡ t → t ≡ false
      by k g true e = absurd (no_later k n e h g)
      by k g false e = refl

  -- from an edge that x reaches to one that it does not, some tone's stretch holds x
  some_owner : (count : ℕ) → reached 0 ≡ true → reached count ≡ false → (n : ℕ) × (n < count) × (owns b w c x n ≡ true)
  some_owner zero h k = absurd (true≢false (sym h ∙ k))
  some_owner (suc count) h k = by (reached count) refl (λ f. some_owner count h f)
    where
      Some : ℕ → Type 0
      Some count = (n : ℕ) × (n < count) × (owns b w c x n ≡ true)

      by : (t : Bool) → reached count ≡ t → (reached count ≡ false → Some count) → Some (suc count)
      by true e earlier = (count, omega arith, owns_by count e k)
      by false e earlier = let found = earlier e in (found.0, omega (arith, found.1), found.2)

  -- ---- those of a band

  module _ (e : fault b w c 0 ≡ None) where
    pub ends : in_band w c x ≡ true → (reached 0 ≡ true) × (reached (2 ^ b) ≡ false)
    unfolding in_band
    ends h =
        let sides = both (at_least (edge512 w c) x) (not (at_least (upper512 w c) x)) h in
        (rw (first_edge b w c) sides.0, rw (past_last_edge b w c e) (not-true (at_least (upper512 w c) x) sides.1))

    pub owner_owns : in_band w c x ≡ true → (owner_of b w c x < 2 ^ b) × (owns b w c x (owner_of b w c x) ≡ true)
    owner_owns h =
        let sides = ends h in
        let found = some_owner (2 ^ b) sides.0 sides.1 in
        rw (owner_is found.0 found.1 found.2) (found.1, found.2)

    pub owned_in_band : (n : ℕ) → n < 2 ^ b → owns b w c x n ≡ true → in_band w c x ≡ true
    unfolding in_band
    owned_in_band n l h =
        let sides = owned n h in
        rw (← first_edge b w c, ← past_last_edge b w c e, earlier_reached 0 n (omega arith) sides.0) (by (reached (2 ^ b)) refl sides.1)
      where
        by : (t : Bool) → reached (2 ^ b) ≡ t → reached (suc n) ≡ false → not t ≡ true
        by true k h = absurd (true≢false (sym (earlier_reached (suc n) (2 ^ b) l k) ∙ h))
        by false k h = refl
