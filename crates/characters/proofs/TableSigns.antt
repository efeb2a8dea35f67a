-- What signs by the tables count for a character is what its symbols count; and by the values of a mode's places that is the bit of its place.
use mathlib.Core.Path.{◌≡◌, ◌∙◌, ap, sym}
use mathlib.Core.Bool.{Bool, false, not}
use mathlib.Core.List.{List}
use mathlib.Core.Logic.{⊎_elim}
use Prim.Native.Nat.{ℕ, ◌+◌, ◌-◌, ◌*◌, ◌/◌, ◌%◌, ◌^◌, ◌<◌}
use native.Mathlib.Nat.{pow-suc}
use native.Mathlib.Numerals.{one-add}
use native.Mathlib.Omega.{arith}
use lib.Bits.{bit_and, and_high}
use lib.IntN.{pos}
use lib.ListN.{get_or}
use lib.Pow.{pow_pos}
use borrow.Author.Tests.{eq-eqb, ne_eqb}
use Rattle.lists.specs.Lists.{tab, num}
use Rattle.lists.proofs.Tables.{tab_at}
use Rattle.walsh.specs.Words.{signed, turned}
use Rattle.walsh.proofs.Signs.{lowest_digit, odd_zero, odd_one}
use Rattle.lead_finder.specs.Counts.{count_at}
use Rattle.chain.specs.Chain.{bit, key_bit}
use Rattle.chain.specs.Tables.{keys_at, place_value}
use Rattle.chain.proofs.Keys.{keys_bit}
use Rattle.characters.specs.Symbols.{has_value, symbol_count}
use Rattle.characters.specs.Internal.{sign_by, table_sign}

-- ---- by the table of the key's bits

table_sign_lem : (values symbols : List ℕ) (q t : ℕ) → q < 8 → t < 64
    → table_sign (tab keys_at 64) values symbols q t ≡ turned (key_bit q t) (has_value (num symbols t) (num values (q + t)))
unfolding table_sign sign_by
table_sign_lem values symbols q t h l =
    ap (λ (k : Bool). turned k (has_value (num symbols t) (num values (q + t)))) (ap (λ (k : ℕ). bit k q) (tab_at keys_at 0 64 t l) ∙ keys_bit t q h)

pub table_count : (q : ℕ) (keys values symbols weights : List ℕ) (signs : List Bool)
    → keys ≡ tab keys_at 64 → q < 8 → signs ≡ tab (table_sign keys values symbols q) 64
    → (t : ℕ) → t < 64 → count_at signs weights t ≡ symbol_count values symbols weights q t
unfolding symbol_count
table_count q keys values symbols weights signs k h s t l =
    let sign : get_or signs t false ≡ turned (key_bit q t) (has_value (num symbols t) (num values (q + t))) =
    rw (s, k) (tab_at (table_sign (tab keys_at 64) values symbols q) false 64 t l ∙ table_sign_lem values symbols q t h l) in
    ap (λ (s : Bool). signed s (pos (num weights t % 16))) sign

-- ---- by the values of a mode's places

-- AND with the value of a place leaves the bit there
value_and : (s p : ℕ) → bit_and s (2 ^ p) ≡ s / 2 ^ p % 2 * 2 ^ p
value_and s p =
    let w : 2 ^ p ≡ 2 ^ (1 + p) - 2 ^ p = omega (arith, ap (λ (n : ℕ). 2 ^ n) (one-add p), pow-suc 2 p) in
    ap (bit_and s) w ∙ and_high s 1 p

value_bit : (s p : ℕ) → has_value s (2 ^ p) ≡ bit s p
unfolding has_value
value_bit s p =
    ⊎_elim
    (λ e. ap not (eq-eqb (bit_and s (2 ^ p)) 0 (value_and s p ∙ ap (λ (d : ℕ). d * 2 ^ p) e ∙ omega arith)) ∙ sym (odd_zero (s / 2 ^ p) e))
    (λ e. ap not (ne_eqb (bit_and s (2 ^ p)) 0 (λ z. omega (arith, value_and s p, ap (λ (d : ℕ). d * 2 ^ p) e, pow_pos p))) ∙ sym (odd_one (s / 2 ^ p) e))
    (lowest_digit (s / 2 ^ p))

pub place_count : (b : ℕ) (values symbols weights : List ℕ) (q t : ℕ) → values ≡ tab (place_value b) 72 → q < 8 → t < 64
    → symbol_count values symbols weights q t ≡ signed (turned (key_bit q t) (bit (num symbols t) ((q + t) % b))) (pos (num weights t % 16))
unfolding symbol_count place_value
place_count b values symbols weights q t v h l =
    let value : num values (q + t) ≡ 2 ^ ((q + t) % b) = rw v (tab_at (place_value b) 0 72 (q + t) (omega arith)) in
    ap (λ (s : Bool). signed (turned (key_bit q t) s) (pos (num weights t % 16))) (ap (has_value (num symbols t)) value ∙ value_bit (num symbols t) ((q + t) % b))
