-- Lists made by `tab`: length, elements, equality, and the functions mapped over them.
use mathlib.Core.Path.{◌≡◌, refl, sym, ◌∙◌, ap}
use mathlib.Core.List.{List, [], ◌∷◌, ◌++◌, map, append_assoc, append-nil, map-append}
use Prim.Native.Nat.{ℕ, zero, suc, ◌+◌, ◌<◌, ◌≤◌}
use native.Mathlib.Decide.{ℕ_discrete}
use native.Mathlib.Nat.{add-zero, add-suc}
use native.Mathlib.Omega.{arith}
use lib.ListN.{length, get_or, take, length-append, get_or-append}
use lib.Seq.{get_or_at, get_or-take, length-take-le, ext_get_or}
use Rattle.lists.specs.Lists.{tab}

pub tab_length : {A : Type 0} (f : ℕ → A) (n : ℕ) → length (tab f n) ≡ n
unfolding tab
tab_length f zero = refl
tab_length f (suc n) = omega (arith, length-append (tab f n) (f n ∷ []), tab_length f n)

pub tab_at : {A : Type 0} (f : ℕ → A) (d : A) (n i : ℕ) → i < n → get_or (tab f n) i d ≡ f i
unfolding tab
tab_at f d zero i h = absurd (omega arith)
tab_at f d (suc n) i h = by (tab_at f d n i) (ℕ_discrete i n)
  where
    by : (i < n → get_or (tab f n) i d ≡ f i) → Dec (i ≡ n) → get_or (tab f n ++ (f n ∷ [])) i d ≡ f i
    by r (yes e) = rw e (get_or_at (tab f n) (f n) [] d n (tab_length f n))
    by r (no ne) = get_or-append (tab f n) (f n ∷ []) d i (omega (arith, tab_length f n)) ∙ r (omega arith)

pub is_tab : {A : Type 0} (f : ℕ → A) (d : A) (n : ℕ) (y : List A) → length y ≡ n → ((i : ℕ) → i < n → get_or y i d ≡ f i) → y ≡ tab f n
is_tab f d n y e h =
    ext_get_or d y (tab f n) (e ∙ sym (tab_length f n)) (λ i l. h i (omega arith) ∙ sym (tab_at f d n i (omega arith)))

-- a list is the table of its elements
pub tab_self : {A : Type 0} (d : A) (y : List A) → tab (λ i. get_or y i d) (length y) ≡ y
tab_self d y = sym (is_tab (λ i. get_or y i d) d (length y) y refl (λ i h. refl))

-- and its first elements those below n
pub tab_take : {A : Type 0} (d : A) (y : List A) (n : ℕ) → n ≤ length y → tab (λ i. get_or y i d) n ≡ take n y
tab_take d y n h = sym (is_tab (λ i. get_or y i d) d n (take n y) (length-take-le n y h) (λ i l. get_or-take n y i d l))

pub tab_ext : {A : Type 0} (z : A) (f g : ℕ → A) (n : ℕ) → ((i : ℕ) → i < n → f i ≡ g i) → tab f n ≡ tab g n
tab_ext z f g n h = is_tab g z n (tab f n) (tab_length f n) (λ i l. tab_at f z n i l ∙ h i l)

pub tab_map : {A B : Type 0} (h : A → B) (f : ℕ → A) (n : ℕ) → map h (tab f n) ≡ tab (λ i. h (f i)) n
unfolding tab
tab_map h f zero = refl
tab_map h f (suc n) = map-append h (tab f n) (f n ∷ []) ∙ ap (λ (x : List _). x ++ (h (f n) ∷ [])) (tab_map h f n)

pub tab_add : {A : Type 0} (g : ℕ → A) (m b : ℕ) → tab g (m + b) ≡ tab g m ++ tab (λ q. g (m + q)) b
unfolding tab
tab_add g m zero = rw add-zero (sym (append-nil (tab g m)))
tab_add g m (suc b) = rw add-suc (ap (λ (x : List _). x ++ (g (m + b) ∷ [])) (tab_add g m b) ∙ append_assoc (tab g m) (tab (λ q. g (m + q)) b) (g (m + b) ∷ []))
