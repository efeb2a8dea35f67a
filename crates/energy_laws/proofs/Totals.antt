-- The energy of a character's counts is the sum of the squared weights, and so that of its correlations the total.
use mathlib.Core.Path.{◌≡◌, refl, ◌∙◌, ap}
use mathlib.Core.Bool.{Bool, true, false, cond, not}
use mathlib.Core.List.{List}
use Prim.Native.Nat.{ℕ, ◌+◌, ◌*◌, ◌<◌, ◌%◌, ◌^◌}
use native.Mathlib.Omega.{arith}
use lib.Dec.{ltb, eqb}
use lib.IntN.{pos}
use lib.ListN.{length, replicate}
use Rattle.lists.specs.Lists.{num}
use Rattle.lists.proofs.Fronts.{over_tab_at}
use Rattle.lists.proofs.Sums.{total_ext}
use Rattle.refusal.specs.Checks.{is_mode}
use Rattle.walsh.specs.Words.{turned}
use Rattle.walsh.specs.Energy.{square, energy}
use Rattle.walsh.proofs.Energies.{parseval}
use Rattle.walsh.proofs.Signed.{abs_signed}
use Rattle.chain.specs.Chain.{missing_mark, bit, key_bit}
use Rattle.chain.specs.Tables.{symbol_of}
use Rattle.chain.proofs.GrayCodes.{symbol_marked}
use Rattle.tone_range.specs.Range.{first_bad_tone}
use Rattle.weight_range.specs.Range.{first_bad_weight}
use Rattle.block_decoder.specs.Decoding.{heard_symbol, symbols_of, count_of, count_in}
use Rattle.block_decoder.proofs.Counts.{symbol_heard, count_missing, count_present}
use Rattle.refusal.specs.Refused.{Answered}
use Rattle.refusal.specs.declared.Reason.{Reason}
use Rattle.energy.specs.Energies.{energy_at, squared_weight, total_of, refused, summed, heard_energies}
use Rattle.energy.specs.declared.Energies.{Energies}
use Rattle.energy_laws.specs.Laws.{Energy}
use Rattle.std.proofs.Common.{Ok}

-- ---- one character

-- a tone counts its weight, with a sign, and a missing one nothing
tone_square : (k : Bool) (place weight tone : ℕ) → square (count_of k place weight (heard_symbol tone)) ≡ cond (eqb tone missing_mark) 0 (weight * weight)
unfolding heard_symbol square
tone_square k place weight tone = by (eqb tone missing_mark)
  where
    by : (s : Bool) → square (count_of k place weight (cond s missing_mark (symbol_of tone))) ≡ cond s 0 (weight * weight)
    by true = ap square (count_missing k place weight)
    by false =
        ap square (count_present k place weight (symbol_of tone) (symbol_marked tone))
        ∙ ap (λ (n : ℕ). n * n) (abs_signed (turned k (bit (symbol_of tone) place)) (pos weight))

module _ (b : ℕ) (tones weights : List ℕ) (q : ℕ) where
  count_square : (t : ℕ) → t < 64 → square (count_in b (symbols_of tones) weights q t) ≡ squared_weight tones weights t
  unfolding count_in squared_weight
  count_square t l =
      ap (λ (s : ℕ). square (count_of (key_bit q t) ((q + t) % b) (num weights t) s)) (symbol_heard tones t l)
      ∙ tone_square (key_bit q t) ((q + t) % b) (num weights t) (num tones t)

  pub counts_total : 64 * energy (count_in b (symbols_of tones) weights q) ≡ total_of tones weights
  unfolding energy total_of
  counts_total = ap (λ (n : ℕ). 64 * n) (total_ext 64 _ _ count_square)

  energy_total : energy_at b tones weights q ≡ total_of tones weights
  unfolding energy_at
  energy_total = parseval.sum (count_in b (symbols_of tones) weights q) ∙ counts_total

-- ---- the answers

-- a total comes of the second of two answers, if the first is a refusal
passes : (t : Bool) (reason : Reason) (place n : ℕ) (e : Energies) → (cond t (refused reason place) e).answer ≡ Ok n
    → (cond t (refused reason place) e ≡ e) × (e.answer ≡ Ok n)
unfolding refused
passes true reason place n e h = let z : ◌≡◌ {A = ℕ} 0 1 = cc in absurd (omega arith)
passes false reason place n e h = (refl, h)

same_total : {m n : ℕ} → ◌≡◌ {A = Answered ℕ} (Ok m) (Ok n) → m ≡ n
same_total e = cc

module _ (N b : ℕ) (tones weights : List ℕ) (n : ℕ) where
  total_summed : (heard_energies N b tones weights).answer ≡ Ok n → (heard_energies N b tones weights ≡ summed b tones weights) × (total_of tones weights ≡ n)
  unfolding heard_energies summed
  total_summed e =
      let p1 = passes (not (is_mode b)) Reason.Mode 0 n _ e in
      let p2 = passes (not (eqb (length tones) 64)) Reason.ToneCount 0 n _ p1.1 in
      let p3 = passes (not (eqb (length weights) 64)) Reason.ToneCount 0 n _ p2.1 in
      let p4 = passes (ltb (first_bad_tone (2 ^ b) tones) 64) Reason.Tone (first_bad_tone (2 ^ b) tones) n _ p3.1 in
      let p5 = passes (ltb (first_bad_weight N weights) 64) Reason.Weight (first_bad_weight N weights) n _ p4.1 in
      (p1.0 ∙ p2.0 ∙ p3.0 ∙ p4.0 ∙ p5.0, same_total p5.1)

  told : (heard_energies N b tones weights).answer ≡ Ok n → (q : ℕ) → q < b → num (heard_energies N b tones weights).sums q ≡ n
  unfolding summed
  told e q l =
      let s = total_summed e in
      ap (λ (x : Energies). num x.sums q) s.0
      ∙ over_tab_at (energy_at b tones weights) 0 b (replicate 8 0) q l
      ∙ energy_total b tones weights q
      ∙ s.1

pub energy_law : Energy
energy_law = record { sum = energy_total; told = told }
