-- `heard_energies` by what is heard, and an equation for each answer under the checks that lead to it.
use mathlib.Core.Path.{◌≡◌}
use mathlib.Core.Bool.{true, cond, not}
use mathlib.Core.List.{List}
use Prim.Native.Nat.{ℕ, ◌<◌, ◌≤◌, ◌^◌}
use borrow.Author.Tests.{lt-ltb, le-ltb, ltb-false, eqb-true, eq-eqb, not-false}
use lib.Dec.{ltb, eqb}
use lib.ListN.{length, replicate}
use Rattle.std.proofs.Common.{Ok, Err}
use Rattle.refusal.specs.Refused.{refused_at}
use Rattle.refusal.specs.Checks.{is_mode}
use Rattle.refusal.specs.declared.Reason.{Reason}
use Rattle.refusal.specs.declared.Refusal.{Refusal}
use Rattle.refusal.proofs.Agreement.{passes, Agrees, agrees_refused, agrees_done, agrees_unless}
use Rattle.tone_range.specs.Range.{first_bad_tone}
use Rattle.weight_range.specs.Range.{HasWeights, first_bad_weight}
use Rattle.weight_range.proofs.Ranges.{in_range_weights}
use Rattle.energy.specs.Energies.{refused, summed, heard_energies}
use Rattle.energy.specs.Internal.{heard_of, listened}
use Rattle.energy.specs.declared.Heard.{Heard}
use Rattle.energy.specs.declared.Energies.{Energies}

-- what the checks before the ranges leave
pub record Passed (b n w : ℕ) : Type 0 where
  pub mode : is_mode b ≡ true
  pub count : n ≡ 64
  pub weighed : w ≡ 64

-- what is answered where a check refuses
abbrev told : Refusal → Energies
told r = record { answer = Err r; sums = replicate 8 0 }

module _ (N b : ℕ) (tones weights : List ℕ) where
  agrees : Agrees told (heard_of tones weights) (summed b tones weights) (listened N b tones weights) (heard_energies N b tones weights)
  unfolding listened heard_energies refused
  agrees =
      agrees_unless (not (is_mode b)) (agrees_refused (refused_at Reason.Mode 0))
      (agrees_unless (not (eqb (length tones) 64)) (agrees_refused (refused_at Reason.ToneCount 0))
      (agrees_unless (not (eqb (length weights) 64)) (agrees_refused (refused_at Reason.ToneCount 0))
      (agrees_unless (ltb (first_bad_tone (2 ^ b) tones) 64) (agrees_refused (refused_at Reason.Tone (first_bad_tone (2 ^ b) tones)))
      (agrees_unless (ltb (first_bad_weight N weights) 64) (agrees_refused (refused_at Reason.Weight (first_bad_weight N weights))) agrees_done))))

  pub listened_refused : (r : Refusal) → listened N b tones weights ≡ Err r → heard_energies N b tones weights ≡ told r
  listened_refused = agrees.refused_as

  pub listened_passed : (heard : Heard) → listened N b tones weights ≡ Ok heard → (heard ≡ heard_of tones weights) × (heard_energies N b tones weights ≡ summed b tones weights)
  listened_passed = agrees.passed_as

  -- an accepted block passed every check
  pub listened_checked : (heard : Heard) → listened N b tones weights ≡ Ok heard → (is_mode b ≡ true) × HasWeights N weights
  unfolding listened
  listened_checked heard e =
      let p1 = passes _ _ _ _ e in
      let p2 = passes _ _ _ _ p1.1 in
      let p3 = passes _ _ _ _ p2.1 in
      let p4 = passes _ _ _ _ p3.1 in
      let p5 = passes _ _ _ _ p4.1 in
      (not-false _ p1.0, in_range_weights N weights (eqb-true (length weights) 64 (not-false _ p3.0)) (ltb-false (first_bad_weight N weights) 64 p5.0))

  module _ (p : Passed b (length tones) (length weights)) where
    -- what is left to check
    left : listened N b tones weights
        ≡ cond (ltb (first_bad_tone (2 ^ b) tones) 64) (Err (refused_at Reason.Tone (first_bad_tone (2 ^ b) tones)))
        (cond (ltb (first_bad_weight N weights) 64) (Err (refused_at Reason.Weight (first_bad_weight N weights))) (Ok (heard_of tones weights)))
    unfolding listened
    left = simp (p.mode, eq-eqb (length tones) 64 p.count, eq-eqb (length weights) 64 p.weighed)

    pub hears_tone : first_bad_tone (2 ^ b) tones < 64 → listened N b tones weights ≡ Err (refused_at Reason.Tone (first_bad_tone (2 ^ b) tones))
    hears_tone h = rw (lt-ltb (first_bad_tone (2 ^ b) tones) 64 h) at left

    module _ (r : 64 ≤ first_bad_tone (2 ^ b) tones) where
      pub hears_weight : first_bad_weight N weights < 64 → listened N b tones weights ≡ Err (refused_at Reason.Weight (first_bad_weight N weights))
      hears_weight h = rw (le-ltb (first_bad_tone (2 ^ b) tones) 64 r, lt-ltb (first_bad_weight N weights) 64 h) at left

      pub hears : 64 ≤ first_bad_weight N weights → listened N b tones weights ≡ Ok (heard_of tones weights)
      hears h = rw (le-ltb (first_bad_tone (2 ^ b) tones) 64 r, le-ltb (first_bad_weight N weights) 64 h) at left
