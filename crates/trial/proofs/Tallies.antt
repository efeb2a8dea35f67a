-- What passes a test in a list, counted place by place: a trial's u and r.
use mathlib.Core.Path.{◌≡◌, refl, sym, ◌∙◌, ap}
use mathlib.Core.Bool.{Bool, not, ◌&&◌}
use mathlib.Core.List.{List}
use Prim.Native.Nat.{ℕ, zero, suc, ◌+◌, ◌<◌, ◌≤◌}
use native.Mathlib.Decide.{ℕ_discrete}
use native.Mathlib.Numerals.{add-one}
use native.Mathlib.Omega.{arith}
use borrow.Author.Tests.{lt-ltb, le-ltb}
use lib.Dec.{eqb}
use lib.ListN.{length, get_or, take}
use Rattle.std.specs.List.{count_by, zip}
use Rattle.std.proofs.lemmas.List.{take_all}
use Rattle.std.proofs.lemmas.List.Sums.{sum_by_more}
use Rattle.std.proofs.lemmas.Slice.Zip.{length-zip, get_or-zip}
use Rattle.lists.specs.Sums.{total}
use Rattle.lists.proofs.Sums.{total_ext}
use Rattle.chain.specs.Chain.{missing_mark}
use Rattle.demands.specs.Demand.{flag, is_replaced, missing_in, replaced_in}

module _ {X : Type 0} (p : X → Bool) (xs : List X) (d : X) where
  front_counted : (n : ℕ) → n ≤ length xs → count_by p (take n xs) ≡ total n (λ t. flag (p (get_or xs t d)))
  unfolding total
  front_counted zero h = refl
  front_counted (suc n) h =
      ap (λ (k : ℕ). count_by p (take k xs)) (sym (add-one n))
      ∙ sum_by_more (λ x. flag (p x)) xs n d (omega arith)
      ∙ ap (λ (k : ℕ). k + flag (p (get_or xs n d))) (front_counted n (omega arith))

  counted : count_by p xs ≡ total (length xs) (λ t. flag (p (get_or xs t d)))
  counted = ap (count_by p) (sym (take_all (length xs) xs (omega arith))) ∙ front_counted (length xs) (omega arith)

-- a sum whose last terms are 0
total_front : (m n : ℕ) (f : ℕ → ℕ) → m ≤ n → ((t : ℕ) → m ≤ t → t < n → f t ≡ 0) → total n f ≡ total m f
unfolding total
total_front m zero f h z = let e : m ≡ 0 = omega arith in ap (λ (k : ℕ). total k f) (sym e)
total_front m (suc n) f h z = by (ℕ_discrete m (suc n)) (λ l. total_front m n f l (λ t low high. z t low (omega arith)))
  where
    by : Dec (m ≡ suc n) → (m ≤ n → total n f ≡ total m f) → total n f + f n ≡ total m f
    by (yes e) below = ap (λ (k : ℕ). total k f) (sym e)
    by (no g) below = omega (arith, below (omega arith), z n (omega arith) (omega arith))

pub missing_counted : (heard : List ℕ) → count_by (λ tone. eqb tone missing_mark) heard ≡ missing_in heard
unfolding missing_in
missing_counted heard = counted (λ tone. eqb tone missing_mark) heard 0

-- of what was sent and what was heard at a place
abbrev pub replaced : ℕ × ℕ → Bool
replaced p = not (eqb p.1 missing_mark) && not (eqb p.1 p.0)

-- past the end of what was sent, no tone is replaced
pub replaced_counted : (sent heard : List ℕ) → count_by replaced (zip sent heard) ≡ replaced_in sent heard
unfolding replaced_in
replaced_counted sent heard =
    counted replaced (zip sent heard) (0, 0)
    ∙ total_ext (length (zip sent heard)) _ (λ t. flag (is_replaced sent heard t)) within
    ∙ sym (total_front (length (zip sent heard)) (length heard) (λ t. flag (is_replaced sent heard t)) (omega (arith, length-zip sent heard)) past)
  where
    within : (t : ℕ) → t < length (zip sent heard) → flag (replaced (get_or (zip sent heard) t (0, 0))) ≡ flag (is_replaced sent heard t)
    within t l =
        let below : t < length sent = omega (arith, length-zip sent heard) in
        rw (get_or-zip sent heard t (0, 0) below (omega (arith, length-zip sent heard)), lt-ltb t (length sent) below) refl

    past : (t : ℕ) → length (zip sent heard) ≤ t → t < length heard → flag (is_replaced sent heard t) ≡ 0
    past t l h = rw (le-ltb t (length sent) (omega (arith, length-zip sent heard))) refl
