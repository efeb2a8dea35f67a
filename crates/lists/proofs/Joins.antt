-- Lists joined: term by term, mapped, made of one table, and, where all have the same length, their elements and parts.
use mathlib.Core.Path.{◌≡◌, refl, sym, ◌∙◌, ap, ap₂}
use mathlib.Core.List.{List, ◌++◌, map, append_assoc, map-append}
use Prim.Native.Nat.{ℕ, zero, suc, ◌+◌, ◌-◌, ◌*◌, ◌<◌, ◌≤◌}
use native.Mathlib.Decide.{ℕ_discrete, dec_lt}
use native.Mathlib.Nat.{zero-mul, suc-mul, mul_comm, mul-le-mul_right}
use native.Mathlib.Numerals.{add-one}
use native.Mathlib.Omega.{arith}
use lib.ListN.{length, get_or, take, drop, length-append, get_or-append}
use lib.Seq.{take_at, drop_at, get_or-append-add}
use Rattle.lists.specs.Lists.{tab, joined}
use Rattle.lists.proofs.Tables.{tab_add}

pub joined_more : {A : Type 0} (f : ℕ → List A) (k : ℕ) → joined f (k + 1) ≡ joined f k ++ f k
unfolding joined
joined_more f k = rw add-one

pub joined_ext : {A : Type 0} (f g : ℕ → List A) (n : ℕ) → ((k : ℕ) → k < n → f k ≡ g k) → joined f n ≡ joined g n
unfolding joined
joined_ext f g zero h = refl
joined_ext f g (suc n) h = ap₂ ◌++◌ (joined_ext f g n (λ k l. h k (omega arith))) (h n (omega arith))

pub joined_map : {A B : Type 0} (h : A → B) (f : ℕ → List A) (n : ℕ) → map h (joined f n) ≡ joined (λ k. map h (f k)) n
unfolding joined
joined_map h f zero = refl
joined_map h f (suc n) = map-append h (joined f n) (f n) ∙ ap (λ (x : List _). x ++ map h (f n)) (joined_map h f n)

-- the numbers of g, block by block
pub joined_tab : {A : Type 0} (g : ℕ → A) (b n : ℕ) → joined (λ k. tab (λ q. g (k * b + q)) b) n ≡ tab g (n * b)
unfolding joined tab
joined_tab g b zero = rw zero-mul
joined_tab g b (suc n) = rw suc-mul (ap (λ (x : List _). x ++ tab (λ q. g (n * b + q)) b) (joined_tab g b n) ∙ sym (tab_add g (n * b) b))

module _ {A : Type 0} (f : ℕ → List A) (b : ℕ) (size : (k : ℕ) → length (f k) ≡ b) where
  pub joined_length : (n : ℕ) → length (joined f n) ≡ n * b
  unfolding joined
  joined_length zero = omega arith
  joined_length (suc n) = omega (arith, length-append (joined f n) (f n), joined_length n, size n, suc-mul n b)

  -- elements of the first k blocks
  pub joined_before : (z : A) (k n i : ℕ) → k ≤ n → i < k * b → get_or (joined f n) i z ≡ get_or (joined f k) i z
  unfolding joined
  joined_before z k zero i h l = let e : k ≡ 0 = omega arith in rw e
  joined_before z k (suc n) i h l = by (joined_before z k n i) (ℕ_discrete k (suc n))
    where
      by : (k ≤ n → i < k * b → get_or (joined f n) i z ≡ get_or (joined f k) i z) → Dec (k ≡ suc n) → get_or (joined f (suc n)) i z ≡ get_or (joined f k) i z
      by r (yes e) = rw e
      by r (no ne) =
          let low : k ≤ n = omega arith in
          get_or-append (joined f n) (f n) z i (omega (arith, joined_length n, mul-le-mul_right b low)) ∙ r low l

  pub joined_at : (z : A) (k n q : ℕ) → k < n → q < b → get_or (joined f n) (k * b + q) z ≡ get_or (f k) q z
  unfolding joined
  joined_at z k n q h l =
      joined_before z (suc k) n (k * b + q) h (omega (arith, suc-mul k b))
      ∙ (rw (← joined_length k) (get_or-append-add (joined f k) (f k) q z))

  -- what holds of every element of every block holds of every element
  pub joined_each : (z : A) (P : A → Type 0) (n : ℕ) → ((k q : ℕ) → k < n → q < b → P (get_or (f k) q z)) → (i : ℕ) → i < n * b → P (get_or (joined f n) i z)
  unfolding joined
  joined_each z P zero h i l = absurd (omega arith)
  joined_each z P (suc n) h i l = by (joined_each z P n (λ k q g. h k q (omega arith)) i) (dec_lt i (n * b))
    where
      by : (i < n * b → P (get_or (joined f n) i z)) → Dec (i < n * b) → P (get_or (joined f n ++ f n) i z)
      by r (yes g) = rw (get_or-append (joined f n) (f n) z i (omega (arith, joined_length n))) (r g)
      by r (no g) =
          let e : i ≡ length (joined f n) + (i - n * b) = omega (arith, joined_length n) in
          rw (e, get_or-append-add (joined f n) (f n) (i - n * b) z) (h n (i - n * b) (omega arith) (omega (arith, suc-mul n b)))

  -- block k, whatever follows
  pub joined_block : (k n : ℕ) (rest : List A) → k < n → take b (drop (b * k) (joined f n ++ rest)) ≡ f k
  unfolding joined
  joined_block k zero rest h = absurd (omega arith)
  joined_block k (suc n) rest h = rw append_assoc (by (joined_block k n (f n ++ rest)) (ℕ_discrete k n))
    where
      by : (k < n → take b (drop (b * k) (joined f n ++ (f n ++ rest))) ≡ f k) → Dec (k ≡ n) → take b (drop (b * k) (joined f n ++ (f n ++ rest))) ≡ f k
      by r (yes e) = rw (e, drop_at (joined f n) (f n ++ rest) (b * n) (joined_length n ∙ mul_comm n b)) (take_at (f n) rest b (size n))
      by r (no ne) = r (omega arith)
