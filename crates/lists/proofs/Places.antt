-- First places: a turn of the loop that looks for one, what is known of it, and the law.
use mathlib.Core.Path.{◌≡◌, refl, sym, ◌∙◌}
use mathlib.Core.Bool.{Bool, true, false, cond, ◌||◌}
use Prim.Native.Nat.{ℕ, zero, suc, ◌+◌, ◌-◌, ◌<◌, ◌≤◌}
use native.Mathlib.Decide.{ℕ_discrete, dec_lt}
use native.Mathlib.Nat.{add-zero, sub-zero}
use native.Mathlib.Numerals.{add-one}
use native.Mathlib.Omega.{arith}
use lib.Dec.{ltb}
use borrow.Author.Tests.{lt-ltb, le-ltb}
use Rattle.lists.specs.Places.{scan, first}
use Rattle.lists.specs.Laws.{IsFirst, FirstPlace}

-- ---- a loop that looks for the first place below n with p, at place i

pub scan_start : (p : ℕ → Bool) (n : ℕ) → scan p 0 (n - 0) ≡ first p n
scan_start p n = rw sub-zero

module _ (p : ℕ → Bool) (i n : ℕ) (h : i < n) where
  one_more : n - i ≡ suc (n - suc i)
  one_more = omega arith

  pub scan_hit : p i ≡ true → scan p i (n - i) ≡ i
  unfolding scan
  scan_hit e = rw (one_more, e)

  pub scan_miss : p i ≡ false → scan p (i + 1) (n - (i + 1)) ≡ scan p i (n - i)
  unfolding scan
  scan_miss e = rw (one_more, e, add-one)

pub scan_end : (p : ℕ → Bool) (i n : ℕ) → n ≤ i → scan p i (n - i) ≡ i
unfolding scan
scan_end p i n h = let e : n - i ≡ 0 = omega arith in rw e

-- ---- a loop that looks at n of m places at once

pub scan_within : (p : ℕ → Bool) (i n m : ℕ) → n ≤ m → scan p i n < i + n → scan p i m ≡ scan p i n
unfolding scan
scan_within p i zero m l h = absurd (omega arith)
scan_within p i (suc n) zero l h = absurd (omega arith)
scan_within p i (suc n) (suc m) l h = by (p i) h (λ g. scan_within p (suc i) n m (omega arith) (omega arith))
  where
    by : (b : Bool) → cond b i (scan p (suc i) n) < i + suc n → (scan p (suc i) n < i + suc n → scan p (suc i) m ≡ scan p (suc i) n)
        → cond b i (scan p (suc i) m) ≡ cond b i (scan p (suc i) n)
    by true g r = refl
    by false g r = r g

pub scan_beyond : (p : ℕ → Bool) (i n m : ℕ) → n ≤ m → i + n ≤ scan p i n → scan p (i + n) (m - n) ≡ scan p i m
unfolding scan
scan_beyond p i zero m l h = rw (add-zero i, sub-zero m)
scan_beyond p i (suc n) zero l h = absurd (omega arith)
scan_beyond p i (suc n) (suc m) l h =
    let place : i + suc n ≡ suc i + n = omega arith in
    let left : suc m - suc n ≡ m - n = omega arith in
    rw (place, left) (by (p i) h (λ g. scan_beyond p (suc i) n m (omega arith) (omega arith)))
  where
    by : (b : Bool) → i + suc n ≤ cond b i (scan p (suc i) n) → (i + suc n ≤ scan p (suc i) n → scan p (suc i + n) (m - n) ≡ scan p (suc i) m)
        → scan p (suc i + n) (m - n) ≡ cond b i (scan p (suc i) m)
    by true g r = absurd (omega arith)
    by false g r = r g

-- ---- what is known of the first place

-- s is the first place with p among the n from i on
record From (p : ℕ → Bool) (i n s : ℕ) : Type 0 where
  low : i ≤ s
  high : s ≤ i + n
  found : s < i + n → p s ≡ true
  before : (k : ℕ) → i ≤ k → k < s → p k ≡ false

scan_from_lem : (p : ℕ → Bool) (i n : ℕ) → From p i n (scan p i n)
unfolding scan
scan_from_lem p i zero = record { low = omega arith; high = omega arith; found = λ h. absurd (omega arith); before = λ k l h. absurd (omega arith) }
scan_from_lem p i (suc n) = by (p i) refl (scan_from_lem p (suc i) n)
  where
    by : (b : Bool) → p i ≡ b → From p (suc i) n (scan p (suc i) n) → From p i (suc n) (cond b i (scan p (suc i) n))
    by true e f = record { low = omega arith; high = omega arith; found = λ h. e; before = λ k l h. absurd (omega arith) }
    by false e f = record {
      low = omega (arith, f.low);
      high = omega (arith, f.high);
      found = λ h. f.found (omega arith);
      before = λ k l h. at k l h (ℕ_discrete k i);
    }
      where
        at : (k : ℕ) → i ≤ k → k < scan p (suc i) n → Dec (k ≡ i) → p k ≡ false
        at k l h (yes q) = rw q e
        at k l h (no ne) = f.before k (omega arith) h

pub scan_most : (p : ℕ → Bool) (i n : ℕ) → scan p i n ≤ i + n
scan_most p i n = (scan_from_lem p i n).high

pub first_is : (p : ℕ → Bool) (n : ℕ) → IsFirst p n (first p n)
first_is p n =
    let f = scan_from_lem p 0 n in
    record { within = omega (arith, f.high); holds = λ h. f.found (omega arith); lowest = λ k l. f.before k (omega arith) l }

pub first_only : (p : ℕ → Bool) (n s : ℕ) → IsFirst p n s → s ≡ first p n
first_only p n s f = by (dec_lt (first p n) s) (dec_lt s (first p n)) (first_is p n)
  where
    both : (i : ℕ) → p i ≡ true → p i ≡ false → ⊥
    both i t u = let z : ◌≡◌ {A = ℕ} 0 1 = cc in omega arith

    by : Dec (first p n < s) → Dec (s < first p n) → IsFirst p n (first p n) → s ≡ first p n
    by (yes l) d g = absurd (both (first p n) (g.holds (omega (arith, f.within))) (f.lowest (first p n) l))
    by (no k) (yes l) g = absurd (both s (f.holds (omega (arith, g.within))) (g.lowest s l))
    by (no k) (no l) g = omega arith

pub first_place : FirstPlace
first_place = record { found = first_is; only = first_only }

pub first_none : (p : ℕ → Bool) (n : ℕ) → ((k : ℕ) → k < n → p k ≡ false) → first p n ≡ n
first_none p n h = sym (first_only p n n (record { within = omega arith; holds = λ l. absurd (omega arith); lowest = h }))

pub first_at : (p : ℕ → Bool) (n s : ℕ) → s < n → p s ≡ true → ((k : ℕ) → k < s → p k ≡ false) → first p n ≡ s
first_at p n s h e f = sym (first_only p n s (record { within = omega arith; holds = λ l. e; lowest = f }))

pub first_ext : (p q : ℕ → Bool) (n : ℕ) → ((k : ℕ) → k < n → p k ≡ q k) → first p n ≡ first q n
first_ext p q n h =
    let f = first_is p n in
    first_only q n (first p n)
    (record {
      within = f.within;
      holds = λ l. sym (h (first p n) l) ∙ f.holds l;
      lowest = λ k l. sym (h k (omega (arith, f.within))) ∙ f.lowest k l;
    })

-- ---- whether there is such a place

pub any_more : (p : ℕ → Bool) (t : ℕ) (found : Bool) → found ≡ ltb (first p t) t → found || p t ≡ ltb (first p (t + 1)) (t + 1)
any_more p t found h = rw (h, add-one) (by (dec_lt (first p t) t) (first_is p t) (p t) refl)
  where
    by : Dec (first p t < t) → IsFirst p t (first p t) → (b : Bool) → p t ≡ b → ltb (first p t) t || p t ≡ ltb (first p (suc t)) (suc t)
    by (yes l) f b e =
        let same : first p (suc t) ≡ first p t = first_at p (suc t) (first p t) (omega arith) (f.holds l) f.lowest in
        rw (same, lt-ltb (first p t) t l) (sym (lt-ltb (first p t) (suc t) (omega arith)))
    by (no n) f true e =
        let here : first p (suc t) ≡ t = first_at p (suc t) t (omega arith) e (λ k g. f.lowest k (omega arith)) in
        rw (here, le-ltb (first p t) t (omega arith), e) (sym (lt-ltb t (suc t) (omega arith)))
    by (no n) f false e =
        let none : first p (suc t) ≡ suc t = first_none p (suc t) (λ k g. at k g (ℕ_discrete k t)) in
        rw (none, le-ltb (first p t) t (omega arith), e) (sym (le-ltb (suc t) (suc t) (omega arith)))
      where
        at : (k : ℕ) → k < suc t → Dec (k ≡ t) → p k ≡ false
        at k g (yes q) = rw q e
        at k g (no ne) = f.lowest k (omega arith)
