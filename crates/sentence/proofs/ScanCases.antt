-- Each answer of the functions that scan a number, over plain variables.
use mathlib.Core.Path.{◌≡◌, refl, sym, ◌∙◌, ap}
use mathlib.Core.Bool.{Bool, true, false, cond, not}
use mathlib.Core.List.{List}
use Prim.Native.Nat.{ℕ, suc, ◌+◌, ◌-◌, ◌*◌, ◌<◌, ◌≤◌}
use native.Mathlib.Numerals.{add-one}
use native.Mathlib.Omega.{arith}
use borrow.Author.Tests.{lt-ltb}
use lib.Dec.{ltb, eqb}
use lib.ListN.{length, drop, get_or}
use lib.Seq.{drop-cons, drop-length}
use Rattle.std.proofs.Common.{Option, Some, None}
use Rattle.std.specs.Bool.{then_some}
use Rattle.text.proofs.Digits.{digit_range}
use Rattle.sentence.specs.Reading.{Scanned, may_follow, one_more, scan_from}
use Rattle.sentence.specs.Internal.{taken}
use Rattle.sentence.proofs.Following.{Follows, follows}

-- ---- one digit more

module _ (limit : ℕ) (begun : Bool) (v c : ℕ) where
  pub told_follows : {r : Bool} → r ≡ may_follow limit begun v c → r ≡ true → Follows limit begun v c
  told_follows {r} e n = follows limit begun v c (sym e ∙ n)

  pub told_digit : {r : Bool} → r ≡ may_follow limit begun v c → r ≡ true → (48 ≤ c) × (c ≤ 57)
  told_digit e n = digit_range c (told_follows e n).digit

-- ---- what is scanned, as it is told

pub scan_told : (n v : ℕ) (s : Scanned) → record { count = n; value = v } ≡ s → then_some (not (eqb n 0)) (n, v) ≡ taken s
unfolding taken
scan_told n v s e = rw (← e) (by (eqb n 0))
  where
    by : (t : Bool) → then_some (not t) (n, v) ≡ cond {A = Option (ℕ × ℕ)} t None (Some (n, v))
    by true = refl
    by false = refl

-- ---- a loop that scans digits

-- s after n digits more
unfoldable pub after : ℕ → Scanned → Scanned
after n s = record { count = n + s.count; value = s.value }

module _ (limit : ℕ) (bytes : List ℕ) where
  abbrev whole : Scanned
  whole = scan_from limit false 0 bytes

  -- what is scanned, where the first n bytes are digits of value v
  pub record Scans (n v : ℕ) : Type 0 where
    pub is : whole ≡ after n (scan_from limit (ltb 0 n) v (drop n bytes))

  pub scans_none : Scans 0 0
  unfolding after
  scans_none =
      let none : 0 + whole.count ≡ whole.count = omega arith in
      record { is = sym (ap (λ (k : ℕ). record { count = k; value = whole.value }) none) }

  stops : (n v : ℕ) → Scans n v → scan_from limit (ltb 0 n) v (drop n bytes) ≡ record { count = 0; value = v } → record { count = n; value = v } ≡ whole
  unfolding after
  stops n v h e =
      let none : n + 0 ≡ n = omega arith in
      sym (h.is ∙ ap (after n) e ∙ ap (λ (k : ℕ). record { count = k; value = v }) none)

  pub scans_all : (n v : ℕ) → length bytes ≤ n → n ≤ length bytes → Scans n v → record { count = n; value = v } ≡ whole
  unfolding scan_from
  scans_all n v low high h =
      let e : n ≡ length bytes = omega arith in
      stops n v h (rw (e, drop-length bytes))

  module _ (n v : ℕ) (l : n < length bytes) (h : Scans n v) where
    pub scans_stop : {r : Bool} → r ≡ may_follow limit (ltb 0 n) v (get_or bytes n 0) → r ≡ false → record { count = n; value = v } ≡ whole
    unfolding scan_from
    scans_stop {r} e t =
        let no : may_follow limit (ltb 0 n) v (get_or bytes n 0) ≡ false = sym e ∙ t in
        stops n v h (rw (drop-cons bytes n 0 l, no))

    pub scans_more : {r : Bool} → r ≡ may_follow limit (ltb 0 n) v (get_or bytes n 0) → r ≡ true → Scans (n + 1) (10 * v + (get_or bytes n 0 - 48))
    unfolding scan_from after
    scans_more {r} e t =
        let next : Scanned = scan_from limit true (10 * v + (get_or bytes n 0 - 48)) (drop (suc n) bytes) in
        let follows : may_follow limit (ltb 0 n) v (get_or bytes n 0) ≡ true = sym e ∙ t in
        let step : scan_from limit (ltb 0 n) v (drop n bytes) ≡ one_more next = rw (drop-cons bytes n 0 l, follows) in
        let sum : n + suc next.count ≡ n + 1 + next.count = omega arith in
        let begun : ltb 0 (n + 1) ≡ true = lt-ltb 0 (n + 1) (omega arith) in
        record { is = h.is ∙ ap (after n) step ∙ ap (λ (k : ℕ). record { count = k; value = next.value }) sum ∙ (rw (begun, add-one n)) }
