-- Signs put on whole numbers and on sums, and on counts.
use mathlib.Core.Path.{◌≡◌, refl, sym, ap}
use mathlib.Core.Bool.{Bool, true, false}
use Prim.Native.Nat.{ℕ, ◌<◌}
use lib.IntN.{ℤ, pos, neg_ℤ, nat_abs, ◌-ℤ◌, neg_ℤ-neg_ℤ, neg_ℤ-+ℤ}
use Rattle.lists.specs.Sums.{sum}
use Rattle.lists.proofs.Integers.{abs_neg}
use Rattle.lists.proofs.Sums.{sum_ext, sum_neg}
use Rattle.walsh.specs.Words.{minus, signed, turned, corr}

pub abs_signed : (s : Bool) (x : ℤ) → nat_abs (signed s x) ≡ nat_abs x
abs_signed true x = abs_neg x
abs_signed false x = refl

pub signed_sub : (s : Bool) (x y : ℤ) → signed s (x -ℤ y) ≡ signed s x -ℤ signed s y
signed_sub true x y = neg_ℤ-+ℤ x (neg_ℤ y)
signed_sub false x y = refl

pub signed_zero : (s : Bool) → signed s (pos 0) ≡ pos 0
signed_zero true = refl
signed_zero false = refl

pub signed_twice : (s : Bool) (x : ℤ) → signed s (signed s x) ≡ x
signed_twice true x = neg_ℤ-neg_ℤ x
signed_twice false x = refl

pub signed_turned : (a b : Bool) (x : ℤ) → signed (turned a b) x ≡ signed a (signed b x)
signed_turned true true x = sym (neg_ℤ-neg_ℤ x)
signed_turned true false x = refl
signed_turned false b x = refl

pub signed_swap : (a b : Bool) (x : ℤ) → signed a (signed b x) ≡ signed b (signed a x)
signed_swap true true x = refl
signed_swap true false x = refl
signed_swap false b x = refl

pub sum_signed : (n : ℕ) (s : Bool) (f : ℕ → ℤ) → sum n (λ t. signed s (f t)) ≡ signed s (sum n f)
sum_signed n true f = sum_neg n f
sum_signed n false f = refl

-- correlations rest on the 64 counts alone
pub corr_ext : (f g : ℕ → ℤ) → ((t : ℕ) → t < 64 → f t ≡ g t) → (c : ℕ) → corr f c ≡ corr g c
unfolding corr
corr_ext f g e c = sum_ext 64 _ _ (λ t l. ap (signed (minus c t)) (e t l))
