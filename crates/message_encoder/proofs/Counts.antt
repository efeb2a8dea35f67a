-- The count of blocks that n codes take, and places of blocks.
use mathlib.Core.Path.{◌≡◌, refl, sym}
use mathlib.Core.Bool.{Bool, true, false, ◌&&◌}
use Prim.Native.Nat.{ℕ, suc, ◌+◌, ◌-◌, ◌*◌, ◌/◌, ◌%◌, ◌<◌, ◌≤◌}
use native.Mathlib.Nat.{suc-mul, add-mul, mul-le-mul_right, div-le_self, div-mul-le_self, lt-div-mul-add, div-eq_of_lt-le, le-div_iff_mul-le}
use native.Mathlib.Omega.{arith}
use borrow.Author.Tests.{leb-true, eqb-true}
use lib.Dec.{leb, eqb}
use Rattle.std.specs.Int.{div_ceil}
use Rattle.std.proofs.lemmas.Grind.{div_ceil_times}
use Rattle.message_encoder.specs.Blocks.{block_count, is_whole}

pub count_small : (b n : ℕ) → block_count b n ≤ n + (b - 1)
unfolding block_count
count_small b n = div-le_self (n + (b - 1)) b

module _ (b n : ℕ) (low : 1 ≤ b) where
  pub count_covers : n ≤ block_count b n * b
  unfolding block_count
  count_covers = omega (arith, lt-div-mul-add {a = n + (b - 1)} {b = b} low)

  pub count_tight : block_count b n * b < n + b
  unfolding block_count
  count_tight = omega (arith, div-mul-le_self (n + (b - 1)) b)

  pub count_unique : (k : ℕ) → n ≤ k * b → k * b < n + b → block_count b n ≡ k
  unfolding block_count
  count_unique k h l = div-eq_of_lt-le b (omega arith) (omega (arith, suc-mul k b))

  -- the library's rounding up
  pub count_by_ceil : div_ceil n b ≡ block_count b n
  count_by_ceil = let bounds = div_ceil_times n b low in sym (count_unique (div_ceil n b) bounds.0 bounds.1)

  pub count_mono : (n' : ℕ) → n ≤ n' → block_count b n ≤ block_count b n'
  unfolding block_count
  count_mono n' h = (le-div_iff_mul-le {k = b} low).1 (omega (arith, div-mul-le_self (n + (b - 1)) b))

-- ---- a message's count of tones

module _ (limit b count : ℕ) (e : is_whole limit b count ≡ true) where
  whole_parts : (count ≡ 64 * (count / 64)) × (count ≤ 64 * block_count b limit)
  whole_parts = by (eqb (count % 64) 0) refl (leb count (64 * block_count b limit)) refl e
    where
      by : (s : Bool) → eqb (count % 64) 0 ≡ s → (t : Bool) → leb count (64 * block_count b limit) ≡ t → s && t ≡ true
          → (count ≡ 64 * (count / 64)) × (count ≤ 64 * block_count b limit)
      by true p true q e = (omega (arith, eqb-true (count % 64) 0 p), leb-true count (64 * block_count b limit) q)
      by true p false q e = let z : ◌≡◌ {A = ℕ} 0 1 = cc in absurd (omega arith)
      by false p t q e = let z : ◌≡◌ {A = ℕ} 0 1 = cc in absurd (omega arith)

  pub whole_blocks : count ≡ 64 * (count / 64)
  whole_blocks = whole_parts.0

  -- the codes of whole blocks: those of the limit, and fewer than b more
  pub whole_few : 1 ≤ b → count / 64 * b < limit + b
  whole_few low =
      let within : count / 64 ≤ block_count b limit = omega (arith, whole_parts) in
      omega (arith, mul-le-mul_right b within, count_tight b limit low)

-- ---- places

-- the place of the next block
pub next_place : (k b at : ℕ) → at ≡ k * b → at + b ≡ (k + 1) * b
next_place k b at e = omega (arith, add-mul k 1 b)

-- a block's codes lie within those of all blocks
pub place_room : (k n b : ℕ) → k < n → k * b + b ≤ n * b
place_room k n b h = omega (arith, suc-mul k b, mul-le-mul_right {m = suc k} {n = n} b h)
