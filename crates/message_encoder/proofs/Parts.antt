-- Parts of a message's tones and codes: its blocks, joined, and what is lent of it.
use mathlib.Core.Path.{◌≡◌, refl, sym, ◌∙◌, ap}
use mathlib.Core.List.{List, ◌++◌}
use Prim.Native.Nat.{ℕ, zero, suc, ◌+◌, ◌-◌, ◌*◌, ◌≤◌}
use native.Mathlib.Nat.{mul-suc}
use native.Mathlib.Omega.{arith}
use lib.ListN.{length, take, drop, length-drop}
use lib.Seq.{length-take-le, take_all, take-add}
use Rattle.lists.specs.Lists.{joined}
use Rattle.message_encoder.specs.Blocks.{block_at}

blocks_taken : (x : List ℕ) (n : ℕ) → joined (block_at x) n ≡ take (64 * n) x
unfolding joined
blocks_taken x zero = refl
blocks_taken x (suc n) = rw mul-suc (ap (λ (y : List ℕ). y ++ block_at x n) (blocks_taken x n) ∙ sym (take-add (64 * n) 64 x))

-- a list of whole blocks is its blocks, joined
pub joined_whole : (x : List ℕ) (n : ℕ) → length x ≡ 64 * n → joined (block_at x) n ≡ x
joined_whole x n h = blocks_taken x n ∙ take_all (64 * n) x (omega arith)

-- the length of a part that is lent
pub part_length : {A : Type 0} (x : List A) (at n : ℕ) → at + n ≤ length x → length (take (at + n - at) (drop at x)) ≡ n
part_length x at n h =
    let e : at + n - at ≡ n = omega arith in
    rw e (length-take-le n (drop at x) (simp length-drop (omega arith)))

-- the part of 64 that is lent is the block
pub part_block : (x : List ℕ) (k : ℕ) → take (64 * k + 64 - 64 * k) (drop (64 * k) x) ≡ block_at x k
part_block x k = let e : 64 * k + 64 - 64 * k ≡ 64 = omega arith in rw e
