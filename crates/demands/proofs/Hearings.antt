-- What a receiver counts: the weight with the sign of the sent code where the sent tone is heard, so that a character's damage is at most D,
-- which in plain hearing is at most u + 2r.
use mathlib.Core.Path.{◌≡◌, refl, sym, ◌∙◌, ap}
use mathlib.Core.Bool.{Bool, true, false, cond, not, ◌&&◌}
use mathlib.Core.List.{List}
use Prim.Native.Nat.{ℕ, zero, suc, ◌+◌, ◌-◌, ◌*◌, ◌<◌, ◌≤◌, ◌%◌}
use native.Mathlib.Decide.{dec_lt}
use native.Mathlib.Omega.{arith}
use native.Mathlib.Nat.{lt_of_lt_of_le}
use borrow.Author.Tests.{eq-eqb, ne_eqb, eqb-true, lt-ltb, ltb-true, ltb-false}
use lib.Dec.{ltb, eqb}
use lib.IntN.{ℤ, pos, nat_abs, ◌-ℤ◌, neg_ℤ-neg_ℤ}
use lib.ListN.{length, get_or-eq_default}
use lib.Pow.{pow_mono}
use Rattle.lists.specs.Sums.{total}
use Rattle.lists.specs.Lists.{num}
use Rattle.lists.proofs.Integers.{sub_cases, abs_sub}
use Rattle.lists.proofs.Sums.{total_mono, total_zero}
use Rattle.walsh.specs.Words.{minus, signed, turned}
use Rattle.decision.specs.Decision.{code_of}
use Rattle.damage.specs.Damage.{sent, damage}
use Rattle.walsh.proofs.Signed.{abs_signed, signed_sub}
use Rattle.chain.specs.Chain.{code_bit, key_bit, sent_bit, symbol_at, tone_at, tones_of, missing_mark}
use Rattle.chain.proofs.Xors.{turned_twice}
use Rattle.chain.proofs.GrayCodes.{gray_code}
use Rattle.chain.proofs.Interleaving.{interleaver}
use Rattle.chain.proofs.Tones.{tones_length, tone_sent, tone_below_lem}
use Rattle.weight_range.specs.Range.{HasWeights, throughout}
use Rattle.weight_range.proofs.Ranges.{weight_throughout, has_throughout}
use Rattle.block_decoder.specs.Decoding.{plain, heard_symbol, symbols_of, count_of, count_in}
use Rattle.block_decoder.proofs.Counts.{heard_present, heard_missing, symbol_heard, count_missing, count_present, count_small, count_within}
use Rattle.demands.specs.Demand.{flag, is_missing, is_replaced, missing_in, replaced_in, damage_at, damage_in}

-- ---- the word and the sign of a code

abbrev pub word_of : ℕ → ℕ
word_of v = cond (ltb v 64) v (v - 64)

abbrev pub sign_of : ℕ → Bool
sign_of v = not (ltb v 64)

pub word_below : (v : ℕ) → v < 128 → word_of v < 64
word_below v h = by (ltb v 64) refl
  where
    by : (s : Bool) → ltb v 64 ≡ s → cond s v (v - 64) < 64
    by true e = ltb-true v 64 e
    by false e = omega arith

pub code_of_word : (v : ℕ) → code_of (word_of v) (sign_of v) ≡ v
code_of_word v = by (ltb v 64) refl
  where
    by : (s : Bool) → ltb v 64 ≡ s → code_of (cond s v (v - 64)) (not s) ≡ v
    by true e = refl
    by false e = omega (arith, ltb-false v 64 e)

pub sent_code : (N v t : ℕ) → sent N (word_of v) (sign_of v) t ≡ signed (code_bit v t) (pos N)
unfolding sent code_bit
sent_code N v t = by (ltb v 64)
  where
    turn : (n : Bool) → signed n (signed true (pos N)) ≡ signed (not n) (pos N)
    turn true = neg_ℤ-neg_ℤ (pos N)
    turn false = refl

    by : (s : Bool) → signed (minus (cond s v (v - 64)) t) (signed (not s) (pos N)) ≡ signed (cond s (minus v t) (not (minus (v - 64) t))) (pos N)
    by true = refl
    by false = turn (minus (v - 64) t)

-- ---- one symbol

-- a weight is as far from the greatest as it is less, if both have one sign
distance : (s : Bool) (w N : ℕ) → w ≤ N → nat_abs (signed s (pos w) -ℤ signed s (pos N)) ≡ N - w
distance s w N h =
    sym (ap nat_abs (signed_sub s (pos w) (pos N)))
    ∙ abs_signed s (pos w -ℤ pos N)
    ∙ by N h
  where
    by : (N : ℕ) → w ≤ N → nat_abs (pos w -ℤ pos N) ≡ N - w
    by zero h = omega arith
    by (suc n) h = sub_cases (λ z. nat_abs z ≡ suc n - w) w (suc n) (λ l. omega arith) (λ l. omega arith)

module _ (b : ℕ) (text : List ℕ) (t : ℕ) (mode : b ≤ 8) where
  symbol_small : symbol_at b text t < 256
  symbol_small = lt_of_lt_of_le (interleaver.below b text t) (pow_mono {i = b} {j = 8} mode)

  pub tone_present : eqb (tone_at b text t) missing_mark ≡ false
  tone_present =
      let small : tone_at b text t < 256 = lt_of_lt_of_le (tone_below_lem b text t) (pow_mono {i = b} {j = 8} mode) in
      ne_eqb (tone_at b text t) missing_mark (λ e. omega arith)

  heard_sent : heard_symbol (tone_at b text t) ≡ symbol_at b text t
  unfolding tone_at
  heard_sent = heard_present (tone_at b text t) tone_present ∙ (gray_code.symbol_of_tone (symbol_at b text t) symbol_small)

  -- the sent tone counts with the sign of the character's code
  count_sent_lem : (weight q : ℕ) → q < b
      → count_of (key_bit q t) ((q + t) % b) weight (heard_symbol (tone_at b text t)) ≡ signed (code_bit (num text q) t) (pos weight)
  unfolding sent_bit
  count_sent_lem weight q h =
      rw heard_sent
      (count_present (key_bit q t) ((q + t) % b) weight (symbol_at b text t) (ne_eqb (symbol_at b text t) missing_mark (λ e. omega (arith, symbol_small)))
      ∙ ap (λ (x : Bool). signed x (pos weight)) (ap (turned (key_bit q t)) (interleaver.bits b text t q h) ∙ turned_twice (key_bit q t) (code_bit (num text q) t)))

pub plain_within : (b : ℕ) (symbols : List ℕ) (q t : ℕ) → nat_abs (count_in b symbols plain q t) ≤ 1
plain_within b symbols q t = omega (arith, count_within b symbols plain q t, at_most_one (dec_lt t 64))
  where
    at_most_one : Dec (t < 64) → num plain t ≤ 1
    at_most_one (yes l) = omega (arith, weight_throughout 1 t l)
    at_most_one (no n) =
        let past : length plain ≤ t = omega (arith, (has_throughout 1 1 (omega arith)).count) in
        omega (arith, get_or-eq_default plain 0 {n = t} past)

-- ---- a character's damage

module _ (N b : ℕ) (text heard weights : List ℕ) (mode : b ≤ 8) (weighed : HasWeights N weights) (q : ℕ) (hq : q < b) where
  symbol_damage : (t : ℕ) → t < 64
      → nat_abs (count_in b (symbols_of heard) weights q t -ℤ sent N (word_of (num text q)) (sign_of (num text q)) t)
      ≤ damage_at N (tones_of b text) heard weights t
  unfolding count_in damage_at
  symbol_damage t h =
      rw (symbol_heard heard t h, sent_code N (num text q) t, tones_length b text, tone_sent b text t h, lt-ltb t 64 h)
      (by (eqb (num heard t) missing_mark) refl (eqb (num heard t) (tone_at b text t)) refl)
    where
      w : ℕ
      w = num weights t

      by : (u : Bool) → eqb (num heard t) missing_mark ≡ u → (s : Bool) → eqb (num heard t) (tone_at b text t) ≡ s
          → nat_abs (count_of (key_bit q t) ((q + t) % b) w (heard_symbol (num heard t)) -ℤ signed (code_bit (num text q) t) (pos N))
          ≤ cond u N (cond (true && (not u && not s)) (N + w) (N - w))
      by true e s f =
          omega (
            arith,
            ap nat_abs (ap (λ (z : ℤ). z -ℤ signed (code_bit (num text q) t) (pos N)) (ap (count_of (key_bit q t) ((q + t) % b) w) (heard_missing (num heard t) e) ∙ count_missing (key_bit q t) ((q + t) % b) w)),
            abs_sub (pos 0) (signed (code_bit (num text q) t) (pos N)),
            abs_signed (code_bit (num text q) t) (pos N),
          )
      by false e true f =
          omega (
            arith,
            ap nat_abs (ap (λ (z : ℤ). z -ℤ signed (code_bit (num text q) t) (pos N)) (ap (λ (n : ℕ). count_of (key_bit q t) ((q + t) % b) w (heard_symbol n)) (eqb-true (num heard t) (tone_at b text t) f) ∙ count_sent_lem b text t mode w q hq)),
            distance (code_bit (num text q) t) w N (weighed.each t h),
          )
      by false e false f =
          omega (
            arith,
            abs_sub (count_of (key_bit q t) ((q + t) % b) w (heard_symbol (num heard t))) (signed (code_bit (num text q) t) (pos N)),
            count_small (key_bit q t) ((q + t) % b) w (heard_symbol (num heard t)),
            abs_signed (code_bit (num text q) t) (pos N),
          )

  pub block_damage : length heard ≡ 64
      → damage N (word_of (num text q)) (sign_of (num text q)) (count_in b (symbols_of heard) weights q) ≤ damage_in N (tones_of b text) heard weights
  unfolding damage damage_in
  block_damage n = rw n (total_mono 64 _ (damage_at N (tones_of b text) heard weights) symbol_damage)

-- ---- D of the tones sent, and in plain hearing

-- the tones sent have no damage at the greatest weight
pub no_damage : (N b : ℕ) (text : List ℕ) → b ≤ 8 → damage_in N (tones_of b text) (tones_of b text) (throughout N) ≡ 0
unfolding damage_in damage_at
no_damage N b text mode =
    rw (tones_length b text)
    (total_zero 64 _ (λ t l.
    rw (tones_length b text, tone_sent b text t l, tone_present b text t mode, eq-eqb (tone_at b text t) (tone_at b text t) refl, lt-ltb t 64 l, weight_throughout N t l) (omega arith)))

total_damage : (n : ℕ) (d u r : ℕ → ℕ) → ((t : ℕ) → t < n → d t ≤ u t + 2 * r t) → total n d ≤ total n u + 2 * total n r
unfolding total
total_damage zero d u r h = omega arith
total_damage (suc n) d u r h = omega (arith, total_damage n d u r (λ t l. h t (omega arith)), h n (omega arith))

pub plain_damage : (sent heard : List ℕ) → length heard ≡ 64 → damage_in 1 sent heard plain ≤ missing_in heard + 2 * replaced_in sent heard
unfolding damage_in damage_at missing_in replaced_in
plain_damage sent heard n =
    rw n
    (total_damage 64 _ (λ t. flag (is_missing heard t)) _ (λ t l. rw (weight_throughout 1 t l) (by (is_missing heard t) (is_replaced sent heard t))))
  where
    by : (u r : Bool) → cond u 1 (cond r (1 + 1) (1 - 1)) ≤ flag u + 2 * flag r
    by true r = omega arith
    by false true = omega arith
    by false false = omega arith
