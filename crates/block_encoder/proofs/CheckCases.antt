-- What the checks of a count and of each code tell of a block, and what is known of codes that `check_codes` finds right.
use mathlib.Core.Path.{◌≡◌, refl, ◌∙◌, ap}
use mathlib.Core.Bool.{Bool, true, false, cond, not}
use mathlib.Core.List.{List}
use Prim.Native.Nat.{ℕ, ◌<◌, ◌≤◌}
use native.Mathlib.Omega.{arith}
use borrow.Author.Tests.{leb-false, ltb-true, ltb-false, eqb-true, eq-eqb}
use lib.Dec.{ltb, leb, eqb}
use lib.ListN.{length}
use Rattle.lists.specs.Lists.{num}
use Rattle.lists.specs.Places.{first}
use Rattle.lists.specs.Found.{found}
use Rattle.lists.proofs.Places.{first_is}
use Rattle.lists.proofs.Found.{position_found}
use Rattle.refusal.specs.Refused.{Answered, number_of, refused_at}
use Rattle.refusal.specs.Checks.{is_mode}
use Rattle.refusal.specs.declared.Refusal.{Refusal}
use Rattle.block_encoder.specs.Encoding.{IsText, bad_code, first_bad_code, encode_block}
use Rattle.block_encoder.specs.Checking.{check_count, check_each, check_codes}
use Rattle.block_encoder.proofs.EncodeCases.{encodes, refuses_code}
use Rattle.std.proofs.Common.{position, Ok, Err}
use Rattle.refusal.specs.declared.Reason.{Reason}

pub code_found : (codes : List ℕ) → position (λ c. leb 128 c) codes ≡ found (length codes) (first_bad_code codes)
unfolding first_bad_code
code_found codes = position_found (λ c. leb 128 c) codes

module _ (b : ℕ) (codes : List ℕ) where
  module _ {r : Refusal} (e : check_count b codes ≡ Err r) where
    -- a count that is refused is refused of a block too, now or later
    pub count_refused : (room : ℕ) → encode_block b codes room ≡ Err r
    unfolding encode_block check_count
    count_refused room = by (is_mode b) (eqb (length codes) b) e
      where
        by : (m n : Bool) → cond (not m) (Err (refused_at Reason.Mode 0)) (cond (not n) (Err (refused_at Reason.CodeCount 0)) (Ok (tt {0}))) ≡ Err r
            → cond (not m) (Err (refused_at Reason.Mode 0))
            (cond (not n) (Err (refused_at Reason.CodeCount 0))
            (cond (ltb room 64) (Err (refused_at Reason.Room 0))
            (cond {A = Answered ℕ} (ltb (first_bad_code codes) b) (Err (refused_at Reason.Code (first_bad_code codes))) (Ok 64)))) ≡ Err r
        by false n h = let p : refused_at Reason.Mode 0 ≡ r = cc in ap Err p
        by true false h = let p : refused_at Reason.CodeCount 0 ≡ r = cc in ap Err p
        by true true h = absurd cc

    pub later_refused : check_codes b codes ≡ Err r
    unfolding check_codes check_count
    later_refused = by (is_mode b) (eqb (length codes) b) e
      where
        by : (m n : Bool) → cond (not m) (Err (refused_at Reason.Mode 0)) (cond (not n) (Err (refused_at Reason.CodeCount 0)) (Ok (tt {0}))) ≡ Err r
            → cond (not m) (Err (refused_at Reason.Mode 0))
            (cond (not n) (Err (refused_at Reason.CodeCount 0))
            (cond (ltb (first_bad_code codes) b) (Err (refused_at Reason.Code (first_bad_code codes))) (Ok (tt {0})))) ≡ Err r
        by false n h = h
        by true false h = h
        by true true h = absurd cc

  pub count_passed : {u : Unit {0}} → check_count b codes ≡ Ok u → (is_mode b ≡ true) × (length codes ≡ b)
  unfolding check_count
  count_passed {u} e = by (is_mode b) refl (eqb (length codes) b) refl e
    where
      by : (m : Bool) → is_mode b ≡ m → (n : Bool) → eqb (length codes) b ≡ n
          → cond (not m) (Err (refused_at Reason.Mode 0)) (cond (not n) (Err (refused_at Reason.CodeCount 0)) (Ok (tt {0}))) ≡ Ok u
          → (is_mode b ≡ true) × (length codes ≡ b)
      by false p n q h = absurd cc
      by true p false q h = absurd cc
      by true p true q h = (p, eqb-true (length codes) b q)

  module _ (m : is_mode b ≡ true) (n : length codes ≡ b) where
    pub each_refused : {r : Refusal} (room : ℕ) → 64 ≤ room → check_each codes ≡ Err r → encode_block b codes room ≡ Err r
    unfolding check_each
    each_refused {r} room h e = by (ltb (first_bad_code codes) (length codes)) refl e
      where
        by : (t : Bool) → ltb (first_bad_code codes) (length codes) ≡ t
            → cond t (Err (refused_at Reason.Code (first_bad_code codes))) (Ok (tt {0})) ≡ Err r → encode_block b codes room ≡ Err r
        by false p q = absurd cc
        by true p q =
            let same : refused_at Reason.Code (first_bad_code codes) ≡ r = cc in
            let low : first_bad_code codes < b = omega (arith, ltb-true (first_bad_code codes) (length codes) p, n) in
            refuses_code b codes room m n h low ∙ ap Err same

    pub each_passed : {u : Unit {0}} → check_each codes ≡ Ok u → b ≤ first_bad_code codes
    unfolding check_each
    each_passed {u} e = by (ltb (first_bad_code codes) (length codes)) refl e
      where
        by : (t : Bool) → ltb (first_bad_code codes) (length codes) ≡ t
            → cond t (Err (refused_at Reason.Code (first_bad_code codes))) (Ok (tt {0})) ≡ Ok u → b ≤ first_bad_code codes
        by true p q = absurd cc
        by false p q = omega (arith, ltb-false (first_bad_code codes) (length codes) p, n)

    pub later_each : check_each codes ≡ check_codes b codes
    unfolding check_codes check_each
    later_each = rw (m, n, eq-eqb b b refl)

-- the codes pass 1, 5 and 6
pub record RightCodes (b : ℕ) (codes : List ℕ) : Type 0 where
  pub mode : is_mode b ≡ true
  pub count : length codes ≡ b
  pub below : b ≤ first_bad_code codes

-- what an answer tells
pub data CheckCase (b : ℕ) (codes : List ℕ) : Answered Unit → Type 0 where
  wrong : (r : Refusal) → number_of r.reason ≤ 6 → CheckCase b codes (Err r)
  right : RightCodes b codes → CheckCase b codes (Ok tt)

pub check_case : (b : ℕ) (codes : List ℕ) → CheckCase b codes (check_codes b codes)
unfolding check_codes number_of
check_case b codes = mode_check (is_mode b) refl
  where
    code_check : is_mode b ≡ true → length codes ≡ b → (t : Bool) → ltb (first_bad_code codes) b ≡ t
        → CheckCase b codes (cond t (Err (refused_at Reason.Code (first_bad_code codes))) (Ok tt))
    code_check m n true e = wrong (refused_at Reason.Code (first_bad_code codes)) (omega arith)
    code_check m n false e = right (record { mode = m; count = n; below = ltb-false (first_bad_code codes) b e })

    count_check : is_mode b ≡ true → (t : Bool) → eqb (length codes) b ≡ t
        → CheckCase b codes (cond (not t) (Err (refused_at Reason.CodeCount 0)) (cond (ltb (first_bad_code codes) b) (Err (refused_at Reason.Code (first_bad_code codes))) (Ok tt)))
    count_check m true e = code_check m (eqb-true (length codes) b e) (ltb (first_bad_code codes) b) refl
    count_check m false e = wrong (refused_at Reason.CodeCount 0) (omega arith)

    mode_check : (t : Bool) → is_mode b ≡ t
        → CheckCase b codes
        (cond (not t) (Err (refused_at Reason.Mode 0))
        (cond (not (eqb (length codes) b)) (Err (refused_at Reason.CodeCount 0)) (cond (ltb (first_bad_code codes) b) (Err (refused_at Reason.Code (first_bad_code codes))) (Ok tt))))
    mode_check true e = count_check e (eqb (length codes) b) refl
    mode_check false e = wrong (refused_at Reason.Mode 0) (omega arith)

-- such a block is encoded wherever there is room
pub right_encoded : (b : ℕ) (codes : List ℕ) (room : ℕ) → RightCodes b codes → 64 ≤ room → encode_block b codes room ≡ Ok 64
right_encoded b codes room g h = encodes b codes room g.mode g.count h g.below

-- and only such a block is
pub encoded_right : (b : ℕ) (codes : List ℕ) (room n : ℕ) → encode_block b codes room ≡ Ok n → RightCodes b codes
unfolding encode_block
encoded_right b codes room n = mode_check (is_mode b) refl
  where
    code_check : is_mode b ≡ true → length codes ≡ b → (t : Bool) → ltb (first_bad_code codes) b ≡ t
        → cond t (Err (refused_at Reason.Code (first_bad_code codes))) (Ok 64) ≡ Ok n → RightCodes b codes
    code_check m k true e p = let z : ◌≡◌ {A = ℕ} 0 1 = cc in absurd (omega arith)
    code_check m k false e p = record { mode = m; count = k; below = ltb-false (first_bad_code codes) b e }

    room_check : is_mode b ≡ true → length codes ≡ b → (t : Bool)
        → cond t (Err (refused_at Reason.Room 0)) (cond (ltb (first_bad_code codes) b) (Err (refused_at Reason.Code (first_bad_code codes))) (Ok 64)) ≡ Ok n
        → RightCodes b codes
    room_check m k true p = let z : ◌≡◌ {A = ℕ} 0 1 = cc in absurd (omega arith)
    room_check m k false p = code_check m k (ltb (first_bad_code codes) b) refl p

    count_check : is_mode b ≡ true → (t : Bool) → eqb (length codes) b ≡ t
        → cond (not t) (Err (refused_at Reason.CodeCount 0))
        (cond (ltb room 64) (Err (refused_at Reason.Room 0)) (cond (ltb (first_bad_code codes) b) (Err (refused_at Reason.Code (first_bad_code codes))) (Ok 64))) ≡ Ok n
        → RightCodes b codes
    count_check m true e p = room_check m (eqb-true (length codes) b e) (ltb room 64) p
    count_check m false e p = let z : ◌≡◌ {A = ℕ} 0 1 = cc in absurd (omega arith)

    mode_check : (t : Bool) → is_mode b ≡ t
        → cond (not t) (Err (refused_at Reason.Mode 0))
        (cond (not (eqb (length codes) b)) (Err (refused_at Reason.CodeCount 0))
        (cond (ltb room 64) (Err (refused_at Reason.Room 0)) (cond (ltb (first_bad_code codes) b) (Err (refused_at Reason.Code (first_bad_code codes))) (Ok 64)))) ≡ Ok n
        → RightCodes b codes
    mode_check true e p = count_check e (eqb (length codes) b) refl p
    mode_check false e p = let z : ◌≡◌ {A = ℕ} 0 1 = cc in absurd (omega arith)

pub right_text : (b : ℕ) (codes : List ℕ) → RightCodes b codes → IsText b codes
right_text b codes g = record {
  count = g.count;
  codes = λ q l. leb-false 128 (num codes q) ((first_is (bad_code codes) (length codes)).lowest q (below q l));
}
  where
    below : (q : ℕ) → q < b → q < first (bad_code codes) (length codes)
    below q l = unfold first_bad_code in omega (arith, g.below)
