-- An array that `from_fn` made, where each call gives h of the place and changes nothing.
use mathlib.Core.Path.{◌≡◌, sym, ◌∙◌, ap}
use mathlib.Core.List.{List}
use Prim.Native.Nat.{ℕ, zero, suc, ◌+◌, ◌<◌, ◌≤◌}
use native.Mathlib.Decide.{ℕ_discrete}
use native.Mathlib.Omega.{arith}
use denote.Param.Members.{Mut, Called}
use lib.ListN.{length, get_or}
use Rattle.std.specs.Array.{IsFromFnResult, IsFromFnResultFrom}
use Rattle.lists.specs.Lists.{tab}
use Rattle.lists.proofs.Tables.{is_tab, tab_self}

module _ {F B : Type 0} {g : Mut F (ℕ × Unit {0}) B} (h : ℕ → B) (d : B) {f : F} (y : List B) (n : ℕ)
    (call : (i : ℕ) (x : B) (q : F) → i < n → Called g f (i, tt) x q → (x ≡ h i) × (q ≡ f)) where
  each_made : (k i m : ℕ) → i + m ≡ n → IsFromFnResultFrom g f y i m → i ≤ k → k < n → get_or y k d ≡ h k
  each_made k i zero e r a l = absurd (omega arith)
  each_made k i (suc m) e r a l = by (each_made k (i + 1) m (omega arith) (rw (call i r.1 r.0 (omega arith) r.3).1 at r.4)) (ℕ_discrete k i)
    where
      by : (i + 1 ≤ k → k < n → get_or y k d ≡ h k) → Dec (k ≡ i) → get_or y k d ≡ h k
      by next (yes p) = rw p (r.2.1 d ∙ (call i r.1 r.0 (omega arith) r.3).0)
      by next (no ne) = next (omega arith) l

  pub made : IsFromFnResult g f y n → y ≡ tab h n
  made r = is_tab h d n y r.long (λ i l. each_made i 0 n (omega arith) r.each (omega arith) l)

-- the same where h gives the elements of z
pub copied : {F B : Type 0} {g : Mut F (ℕ × Unit {0}) B} (z : List B) (d : B) {f : F} (y : List B) (n : ℕ) → length z ≡ n
    → ((i : ℕ) (x : B) (q : F) → i < n → Called g f (i, tt) x q → (x ≡ get_or z i d) × (q ≡ f)) → IsFromFnResult g f y n → y ≡ z
copied z d y n e call r = made (λ i. get_or z i d) d y n call r ∙ ap (tab (λ i. get_or z i d)) (sym e) ∙ tab_self d z
