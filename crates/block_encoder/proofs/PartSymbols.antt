-- The symbols as far as some characters go, what the next character adds, and that they stay bytes.
use mathlib.Core.Path.{◌≡◌, refl, sym, ◌∙◌, ap}
use mathlib.Core.Bool.{Bool, true, false, cond, not, beq}
use mathlib.Core.List.{List}
use Prim.Native.Nat.{ℕ, suc, ◌+◌, ◌-◌, ◌<◌, ◌≤◌}
use native.Mathlib.Numerals.{add-one}
use native.Mathlib.Omega.{arith}
use lib.ListN.{length, replicate}
use lib.Pow.{pow_mono}
use Rattle.lists.specs.Lists.{tab, num}
use Rattle.lists.specs.Sums.{total}
use Rattle.lists.proofs.Sums.{total_mono, total_fewer}
use Rattle.lists.proofs.Tables.{tab_length, tab_at}
use Rattle.walsh.specs.Words.{turned}
use Rattle.chain.specs.Chain.{key_bit, code_bit, sent_bit, value_at, symbol_at}
use Rattle.chain.specs.Tables.{place_value}
use Rattle.chain.proofs.Values.{places_below}
use Rattle.chain.proofs.Xors.{turned_differs}
use Rattle.block_encoder.specs.Internal.{part_symbols}

pub part_at : (codes : List ℕ) (n t : ℕ) → t < 64 → num (part_symbols codes n) t ≡ total n (value_at (length codes) codes t)
unfolding part_symbols
part_at codes n t h = tab_at (λ k. total n (value_at (length codes) codes k)) 0 64 t h

pub part_length : (codes : List ℕ) (n : ℕ) → length (part_symbols codes n) ≡ 64
unfolding part_symbols
part_length codes n = tab_length (λ k. total n (value_at (length codes) codes k)) 64

pub part_none : (codes : List ℕ) → replicate 64 0 ≡ part_symbols codes 0
unfolding part_symbols total tab
part_none codes = refl

pub part_all : (codes : List ℕ) → part_symbols codes (length codes) ≡ tab (symbol_at (length codes) codes) 64
unfolding part_symbols symbol_at
part_all codes = refl

-- what character q adds to symbol t, by its code bit and its key bit
pub part_more : (codes : List ℕ) (t q : ℕ) (sum : ℕ) (code key bit : Bool) (value next : ℕ)
    → sum ≡ total q (value_at (length codes) codes t)
    → code ≡ code_bit (num codes q) t → key ≡ key_bit q t → bit ≡ not (beq code key)
    → value ≡ place_value (length codes) (q + t)
    → next ≡ sum + cond bit value 0
    → next ≡ total (q + 1) (value_at (length codes) codes t)
unfolding total value_at sent_bit place_value
part_more codes t q sum code key bit value next s c k d w n =
    let sent : bit ≡ turned (key_bit q t) (code_bit (num codes q) t) =
    d ∙ sym (turned_differs key code) ∙ ap (λ (x : Bool). turned key x) c ∙ ap (λ (x : Bool). turned x (code_bit (num codes q) t)) k in
    rw (add-one, ← sent, ← w, ← s) n

-- so what a bit adds is no more than its value
pub cond_difference : (d : Bool) (x : ℕ) → cond d x 0 ≡ x - cond d 0 x
cond_difference true x = omega arith
cond_difference false x = omega arith

-- there is room in a byte for character q, be its bit 1 or 0
pub part_room : (codes : List ℕ) (t q sum value : ℕ) → q < length codes → length codes ≤ 8
    → sum ≡ total q (value_at (length codes) codes t) → value ≡ place_value (length codes) (q + t) → sum + value < 256
unfolding total value_at place_value
part_room codes t q sum value h high s w =
    omega (
      arith,
      total_mono q (value_at (length codes) codes t) places (λ k l. omega (arith, cond_difference (sent_bit k (num codes k) t) (places k))),
      total_fewer (suc q) (length codes) places h,
      places_below (length codes) t,
      pow_mono {i = length codes} {j = 8} high,
    )
  where
    places : ℕ → ℕ
    places k = place_value (length codes) (k + t)
