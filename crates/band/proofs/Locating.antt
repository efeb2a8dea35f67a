-- The tests of `locate`, in a band of right settings, and its answers, one by one.
use Rattle.std.proofs.Common.{Option, Some, None}
use Rattle.std.specs.Option.{option_map, option_or}
use Rattle.refusal.specs.declared.Reason.{Reason}
use mathlib.Core.Path.{◌≡◌, refl, sym, ap, ◌∙◌}
use mathlib.Core.Bool.{Bool, true, false, true≢false, cond, not}
use Prim.Native.Nat.{ℕ, suc, ◌%◌, ◌^◌, ◌≤◌}
use native.Mathlib.Omega.{arith}
use lib.Ieee.{Float, nan, inf, fin, lt, le, is_nan}
use Rattle.std.proofs.lemmas.Float.{lt_irrefl, lt_of_lt_of_le, lt_of_not-le}
use Rattle.scaled.proofs.Rounding.{of_value}
use Rattle.scaled.proofs.Scaling.{scaled_value}
use Rattle.scaled.specs.Exact.{scaled}
use Rattle.std.specs.Float.{float_is_finite, NotNan}
use lib.Ieee.Scale.{finite}
use lib.Dec.{T}
use lib.Pow.{pow_mono}
use Rattle.refusal.specs.Refused.{refused_at}
use Rattle.refusal.proofs.Limits.{mode_tones}
use Rattle.scaled_order.specs.Order.{at_least}
use Rattle.scaled_order.proofs.Comparing.{compared}
use Rattle.band.specs.Limits.{fault}
use Rattle.band.specs.Frequencies.{edge512, band_of}
use Rattle.band.specs.Locating.{tone_edge512, owner_of, upper512, in_band, heard_as, settled, located_of, refusal_of, measured_fault, locate_fault}
use Rattle.band.specs.declared.Located.{Located}
use Rattle.band.specs.Internal.{tone_edge_in, holds_in, Between, OwnerIn}
use Rattle.band.proofs.Settings.{passed, within}
use Rattle.band.proofs.Formulas.{tone_edge_exact}
use Rattle.band.proofs.Owners.{past_last_edge, owns_by, owner_is, ends}

-- ---- comparisons

pub as_finite : (x : Float) → float_is_finite x ≡ finite x
unfolding float_is_finite
as_finite nan = refl
as_finite (inf s) = refl
as_finite (fin s m e) = refl

less : (x y : Float) → NotNan x → NotNan y → lt x y ≡ not (le y x)
less x y p q = by (le y x) refl (lt x y) refl
  where
    by : (s : Bool) → le y x ≡ s → (t : Bool) → lt x y ≡ t → t ≡ not s
    by true h true k = absurd (lt_irrefl x (lt_of_lt_of_le x y x (rw k tt) (rw h tt)))
    by true h false k = refl
    by false h true k = refl
    by false h false k = let g : T (lt x y) = lt_of_not-le y x q p (rw h tt) in absurd (rw k at g)

short_of : (k : ℕ) (x : Float) → finite x ≡ true → lt x (scaled k) ≡ not (at_least k x)
unfolding is_nan
short_of k nan f = absurd (true≢false (sym f))
short_of k (inf s) f = absurd (true≢false (sym f))
short_of k (fin s m e) f =
    let x = fin s m e in
    of_value (λ (y : Float). lt x y ≡ not (le y x)) (scaled k) k 512 (scaled_value k) (λ n d h. less x (fin false n d) tt tt) ∙ ap not (compared k x)

-- ---- the tests

module _ (b w c : ℕ) (x : Float) (e : fault b w c 0 ≡ None) where
  edge_reached : (n : ℕ) → n ≤ 2 ^ b → le (tone_edge_in (band_of b w c) n) x ≡ at_least (tone_edge512 b w c n) x
  edge_reached n l =
      let few : 2 ^ b ≤ 2 ^ 8 = pow_mono (within b w c 0 e).mode_high in
      ap (λ (y : Float). le y x) (tone_edge_exact b w c e n (omega arith)) ∙ compared (tone_edge512 b w c n) x

  pub held : finite x ≡ true → holds_in (band_of b w c) (2 ^ (b % 16)) x ≡ in_band w c x
  unfolding holds_in in_band band_of
  held f =
      let few : 2 ^ b ≤ 2 ^ 8 = pow_mono (within b w c 0 e).mode_high in
      rw (
        mode_tones b (passed b w c 0 e).mode,
        compared (edge512 w c) x,
        tone_edge_exact b w c e (2 ^ b) (omega arith),
        past_last_edge b w c e,
        short_of (upper512 w c) x f,
      ) refl

  pub from_first : in_band w c x ≡ true → Between (band_of b w c) x 0 (2 ^ b)
  from_first h =
      let sides = ends b w c x e h in
      record { reached = edge_reached 0 (omega arith) ∙ sides.0; short = edge_reached (2 ^ b) (omega arith) ∙ sides.1 }

  pub owner_found : (n : ℕ) → OwnerIn (band_of b w c) (2 ^ b) x n → n ≡ owner_of b w c x
  owner_found n o =
      let few = o.few in
      let reached = sym (edge_reached n (omega arith)) ∙ o.holds.reached in
      let short = sym (edge_reached (suc n) (omega arith)) ∙ o.holds.short in
      sym (owner_is b w c x n few (owns_by b w c x n reached short))

-- ---- the answers

module _ (b w c : ℕ) (x : Float) where
  module _ (e : fault b w c 0 ≡ None) where
    pub located_not_finite : finite x ≡ false → Located.NotFinite ≡ located_of b w c x
    unfolding located_of
    located_not_finite f = rw (e, f)

    pub located_outside : finite x ≡ true → in_band w c x ≡ false → Located.OutsideBand ≡ located_of b w c x
    unfolding located_of
    located_outside f h = rw (e, f, h)

    pub located_heard : finite x ≡ true → in_band w c x ≡ true → heard_as b w c x (owner_of b w c x) ≡ located_of b w c x
    unfolding located_of
    located_heard f h = rw (e, f, h)

  -- an answer is the refusal of the first check that fails, if one does
  pub told : (r : Located) → r ≡ located_of b w c x → refusal_of r ≡ option_map (λ reason. refused_at reason 0) (locate_fault b w c x)
  unfolding located_of locate_fault measured_fault heard_as
  told r e = ap refusal_of e ∙ by (fault b w c 0) (finite x) (in_band w c x)
    where
      by : (p : Option Reason) (q r : Bool)
          → refusal_of (settled p (cond (not q) Located.NotFinite (cond (not r) Located.OutsideBand (heard_as b w c x (owner_of b w c x)))))
          ≡ option_map (λ reason. refused_at reason 0)
          (option_or p (cond (not q) (Some Reason.NotFinite) (cond (not r) (Some Reason.OutsideBand) None)))
      by (Some reason) q r = refl
      by None false r = refl
      by None true false = refl
      by None true true = refl
