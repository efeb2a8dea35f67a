-- The interleaver's law, and that a symbol is known by its bits.
use mathlib.Core.Path.{◌≡◌, sym, ◌∙◌, ap}
use mathlib.Core.Bool.{Bool, cond}
use mathlib.Core.List.{List}
use Prim.Native.Nat.{ℕ, ◌+◌, ◌-◌, ◌*◌, ◌/◌, ◌%◌, ◌^◌, ◌<◌}
use native.Mathlib.Nat.{mod-add-mod, add-mul-mod_self_right, mod-eq_of_lt, mod-lt, div-add-mod', add-mul}
use native.Mathlib.Omega.{arith}
use Rattle.lists.specs.Lists.{num}
use Rattle.lists.proofs.Sums.{total_ext, total_turned}
use Rattle.chain.specs.Chain.{bit, sent_bit, value_at, symbol_at}
use Rattle.chain.specs.Laws.{Interleaver}
use Rattle.chain.proofs.Binary.{value_of_digit, number_of, number_below, number_bit, number_of_bits}

-- the character whose bit is at place i of symbol t
sender : ℕ → ℕ → ℕ → ℕ
sender b t i = (i + (b - t % b)) % b

sender_of : (b t q : ℕ) → q < b → sender b t ((q + t) % b) ≡ q
unfolding sender
sender_of b t q h =
    mod-add-mod (q + t) b (b - t % b)
    ∙ ap (λ (n : ℕ). n % b) (round (mod-lt t (omega arith)))
    ∙ add-mul-mod_self_right q (t / b + 1) b
    ∙ mod-eq_of_lt h
  where
    round : t % b < b → q + t + (b - t % b) ≡ q + (t / b + 1) * b
    round l = omega (arith, div-add-mod' t b, add-mul (t / b) 1 b)

module _ (b : ℕ) (codes : List ℕ) (t : ℕ) where
  -- the bits of symbol t by their place
  bit_at : ℕ → Bool
  bit_at i = sent_bit (sender b t i) (num codes (sender b t i)) t

  bit_at_lem : (q : ℕ) → q < b → bit_at ((q + t) % b) ≡ sent_bit q (num codes q) t
  unfolding bit_at
  bit_at_lem q h = ap (λ (k : ℕ). sent_bit k (num codes k) t) (sender_of b t q h)

  symbol_number : symbol_at b codes t ≡ number_of bit_at b
  unfolding symbol_at value_at
  symbol_number =
      total_ext b (value_at b codes t) (λ q. value_of_digit bit_at ((q + t) % b))
      (λ q h. ap (λ (d : Bool). cond d (2 ^ ((q + t) % b)) 0) (sym (bit_at_lem q h)))
      ∙ total_turned b t (value_of_digit bit_at)

  symbol_fits : symbol_at b codes t < 2 ^ b
  symbol_fits = rw symbol_number (number_below bit_at b)

  symbol_bit : (q : ℕ) → q < b → bit (symbol_at b codes t) ((q + t) % b) ≡ sent_bit q (num codes q) t
  symbol_bit q h = rw symbol_number (number_bit bit_at b ((q + t) % b) (mod-lt (q + t) (omega arith)) ∙ bit_at_lem q h)

  pub symbol_from_bits : (s : ℕ) → s < 2 ^ b
      → ((q : ℕ) → q < b → bit s ((q + t) % b) ≡ sent_bit q (num codes q) t) → s ≡ symbol_at b codes t
  unfolding symbol_at value_at
  symbol_from_bits s h same =
      number_of_bits s b h
      ∙ sym (total_turned b t (value_of_digit (bit s)))
      ∙ total_ext b (λ q. value_of_digit (bit s) ((q + t) % b)) (value_at b codes t)
      (λ q l. ap (λ (d : Bool). cond d (2 ^ ((q + t) % b)) 0) (same q l))

pub interleaver : Interleaver
interleaver = record { bits = symbol_bit; below = symbol_fits }
