-- `heard_block` and `heard_block_into`: an equation for each answer, under the checks that lead to it, and back.
use mathlib.Core.Path.{◌≡◌, refl, sym, ◌∙◌, ap}
use mathlib.Core.Bool.{Bool, true, false, cond, not}
use mathlib.Core.List.{List}
use Prim.Native.Nat.{ℕ, ◌<◌, ◌≤◌, ◌^◌}
use native.Mathlib.Omega.{arith}
use borrow.Author.Tests.{lt-ltb, le-ltb, eq-eqb, ne_eqb, ltb-false, eqb-true, not-false}
use lib.Dec.{ltb, eqb}
use lib.ListN.{length, take, replicate}
use Rattle.lists.specs.Lists.{tab, over}
use Rattle.refusal.specs.Checks.{is_lead_at, is_mode}
use Rattle.refusal.specs.declared.Refusal.{Refusal}
use Rattle.refusal.proofs.Agreement.{Agrees, agrees_refused, agrees_done, agrees_unless}
use Rattle.decision.specs.Decision.{none}
use Rattle.decision.specs.declared.Character.{Character}
use Rattle.tone_range.specs.Range.{first_bad_tone}
use Rattle.weight_range.specs.Range.{first_bad_weight}
use Rattle.block_decoder.specs.Decoding.{weighted_of, codes_of, first_unclear, unless_unclear, padded, refused, heard_block, heard_into, heard_block_into}
use Rattle.block_decoder.specs.Internal.{code_in, listened, judgement_in}
use Rattle.block_decoder.specs.declared.BlockDecoded.{BlockDecoded}
use Rattle.block_decoder.proofs.Characters.{codes_padded, judgement_padded}
use Rattle.block_decoder.proofs.Clarity.{text_told}
use Rattle.std.proofs.Common.{Ok, Err}
use Rattle.refusal.specs.declared.Reason.{Reason}
use Rattle.refusal.specs.Refused.{Answered, refused_at}

-- what a block's checks before its tones' range leave, where n tones and w weights are heard
pub record Passed (N b m n w room : ℕ) : Type 0 where
  pub mode : is_mode b ≡ true
  pub lead : is_lead_at N m ≡ true
  pub count : n ≡ 64
  pub weighed : w ≡ 64
  pub fits : b ≤ room

-- what is answered where every check is passed
abbrev pub judged : ℕ → ℕ → List Character → BlockDecoded
judged b m characters = record { answer = unless_unclear m characters (Ok b); characters = padded characters }

module _ (N b m : ℕ) (tones weights : List ℕ) (room : ℕ) where
  pub refuses_mode : is_mode b ≡ false → heard_block N b m tones weights room ≡ refused Reason.Mode 0
  unfolding heard_block
  refuses_mode e = simp e

  module _ (e : is_mode b ≡ true) where
    pub refuses_lead : is_lead_at N m ≡ false → heard_block N b m tones weights room ≡ refused Reason.LeastLead 0
    unfolding heard_block
    refuses_lead f = simp (e, f)

    module _ (f : is_lead_at N m ≡ true) where
      pub refuses_count : (length tones ≡ 64 → ⊥) → heard_block N b m tones weights room ≡ refused Reason.ToneCount 0
      unfolding heard_block
      refuses_count h = simp (e, f, ne_eqb (length tones) 64 h)

      module _ (n : length tones ≡ 64) where
        pub refuses_weights : (length weights ≡ 64 → ⊥) → heard_block N b m tones weights room ≡ refused Reason.ToneCount 0
        unfolding heard_block
        refuses_weights h = simp (e, f, eq-eqb (length tones) 64 n, ne_eqb (length weights) 64 h)

        pub refuses_room : length weights ≡ 64 → room < b → heard_block N b m tones weights room ≡ refused Reason.Room 0
        unfolding heard_block
        refuses_room w h = simp (e, f, eq-eqb (length tones) 64 n, eq-eqb (length weights) 64 w, lt-ltb room b h)

  module _ (p : Passed N b m (length tones) (length weights) room) where
    -- what is left to check
    in_range : heard_block N b m tones weights room
        ≡ cond (ltb (first_bad_tone (2 ^ b) tones) 64) (refused Reason.Tone (first_bad_tone (2 ^ b) tones))
        (cond (ltb (first_bad_weight N weights) 64) (refused Reason.Weight (first_bad_weight N weights)) (judged b m (weighted_of b tones weights)))
    unfolding heard_block
    in_range = simp (p.mode, p.lead, eq-eqb (length tones) 64 p.count, eq-eqb (length weights) 64 p.weighed, le-ltb room b p.fits)

    pub refuses_tone : first_bad_tone (2 ^ b) tones < 64 → heard_block N b m tones weights room ≡ refused Reason.Tone (first_bad_tone (2 ^ b) tones)
    refuses_tone h = rw (lt-ltb (first_bad_tone (2 ^ b) tones) 64 h) at in_range

    module _ (r : 64 ≤ first_bad_tone (2 ^ b) tones) where
      pub refuses_weight : first_bad_weight N weights < 64 → heard_block N b m tones weights room ≡ refused Reason.Weight (first_bad_weight N weights)
      refuses_weight h = rw (le-ltb (first_bad_tone (2 ^ b) tones) 64 r, lt-ltb (first_bad_weight N weights) 64 h) at in_range

      pub judges : 64 ≤ first_bad_weight N weights → heard_block N b m tones weights room ≡ judged b m (weighted_of b tones weights)
      judges h = rw (le-ltb (first_bad_tone (2 ^ b) tones) 64 r, le-ltb (first_bad_weight N weights) 64 h) at in_range

-- ---- the decisions before the answer

-- what is answered where a check refuses
abbrev told : Refusal → BlockDecoded
told r = record { answer = Err r; characters = replicate 8 none }

module _ (N b m : ℕ) (tones weights : List ℕ) (room : ℕ) where
  agrees : Agrees told (padded (weighted_of b tones weights)) (judged b m (weighted_of b tones weights)) (listened N b m tones weights room) (heard_block N b m tones weights room)
  unfolding listened heard_block refused
  agrees =
      agrees_unless (not (is_mode b)) (agrees_refused (refused_at Reason.Mode 0))
      (agrees_unless (not (is_lead_at N m)) (agrees_refused (refused_at Reason.LeastLead 0))
      (agrees_unless (not (eqb (length tones) 64)) (agrees_refused (refused_at Reason.ToneCount 0))
      (agrees_unless (not (eqb (length weights) 64)) (agrees_refused (refused_at Reason.ToneCount 0))
      (agrees_unless (ltb room b) (agrees_refused (refused_at Reason.Room 0))
      (agrees_unless (ltb (first_bad_tone (2 ^ b) tones) 64) (agrees_refused (refused_at Reason.Tone (first_bad_tone (2 ^ b) tones)))
      (agrees_unless (ltb (first_bad_weight N weights) 64) (agrees_refused (refused_at Reason.Weight (first_bad_weight N weights))) agrees_done))))))

  -- what is left to check where the first checks are passed
  module _ (p : Passed N b m (length tones) (length weights) room) where
    left : listened N b m tones weights room
        ≡ cond (ltb (first_bad_tone (2 ^ b) tones) 64) (Err (refused_at Reason.Tone (first_bad_tone (2 ^ b) tones)))
        (cond (ltb (first_bad_weight N weights) 64) (Err (refused_at Reason.Weight (first_bad_weight N weights))) (Ok (padded (weighted_of b tones weights))))
    unfolding listened
    left = simp (p.mode, p.lead, eq-eqb (length tones) 64 p.count, eq-eqb (length weights) 64 p.weighed, le-ltb room b p.fits)

    pub hears_tone : first_bad_tone (2 ^ b) tones < 64 → listened N b m tones weights room ≡ Err (refused_at Reason.Tone (first_bad_tone (2 ^ b) tones))
    hears_tone h = rw (lt-ltb (first_bad_tone (2 ^ b) tones) 64 h) at left

    module _ (r : 64 ≤ first_bad_tone (2 ^ b) tones) where
      pub hears_weight : first_bad_weight N weights < 64 → listened N b m tones weights room ≡ Err (refused_at Reason.Weight (first_bad_weight N weights))
      hears_weight h = rw (le-ltb (first_bad_tone (2 ^ b) tones) 64 r, lt-ltb (first_bad_weight N weights) 64 h) at left

      pub hears : 64 ≤ first_bad_weight N weights → listened N b m tones weights room ≡ Ok (padded (weighted_of b tones weights))
      hears h = rw (le-ltb (first_bad_tone (2 ^ b) tones) 64 r, le-ltb (first_bad_weight N weights) 64 h) at left

  pub listened_refused : (r : Refusal) → listened N b m tones weights room ≡ Err r
      → heard_block N b m tones weights room ≡ record { answer = Err r; characters = replicate 8 none }
  listened_refused = agrees.refused_as

  pub listened_passed : (found : List Character) → listened N b m tones weights room ≡ Ok found
      → (found ≡ padded (weighted_of b tones weights)) × (heard_block N b m tones weights room ≡ judged b m (weighted_of b tones weights))
  listened_passed = agrees.passed_as

  pub listened_mode : (found : List Character) → listened N b m tones weights room ≡ Ok found → is_mode b ≡ true
  unfolding listened
  listened_mode found e = by (is_mode b) refl _ e
    where
      by : (t : Bool) → is_mode b ≡ t → (l : Answered (List Character)) → cond (not t) (Err (refused_at Reason.Mode 0)) l ≡ Ok found → is_mode b ≡ true
      by true h l f = h
      by false h l f = absurd cc

-- the answer by an array that holds the block's characters
pub same_decoded : (b m : ℕ) (tones weights : List ℕ) {answer : Answered ℕ} {found : List Character} → answer ≡ judgement_in b m found
    → found ≡ padded (weighted_of b tones weights) → ◌≡◌ {A = BlockDecoded} (record { answer = answer; characters = found }) (judged b m (weighted_of b tones weights))
same_decoded b m tones weights p e = let q = p ∙ ap (judgement_in b m) e ∙ judgement_padded b tones weights m in λ i. record { answer = q i; characters = e i }

module _ (N b m : ℕ) (tones weights out : List ℕ) where
  pub codes_kept : {r : Refusal} → (heard_block N b m tones weights (length out)).answer ≡ Err r → heard_block_into N b m tones weights out ≡ out
  unfolding heard_block_into heard_into
  codes_kept e = rw e

  pub codes_written : {n : ℕ} → (heard_block N b m tones weights (length out)).answer ≡ Ok n
      → heard_block_into N b m tones weights out ≡ over (take n (codes_of (weighted_of b tones weights))) out
  unfolding heard_block_into heard_into
  codes_written e = rw e

-- ---- an accepted block passed every check

-- a text comes of the second of two answers, if the first is a refusal
passes : (t : Bool) (reason : Reason) (place n : ℕ) (d : BlockDecoded) → (cond t (refused reason place) d).answer ≡ Ok n → (t ≡ false) × (d.answer ≡ Ok n)
unfolding refused
passes true reason place n d e = let z : ◌≡◌ {A = ℕ} 0 1 = cc in absurd (omega arith)
passes false reason place n d e = (refl, e)

same_count : {b n : ℕ} → ◌≡◌ {A = Answered ℕ} (Ok b) (Ok n) → n ≡ b
same_count e = cc

pub record Accepted (N b m : ℕ) (tones weights : List ℕ) (room n : ℕ) : Type 0 where
  pub passed : Passed N b m (length tones) (length weights) room
  pub in_range : 64 ≤ first_bad_tone (2 ^ b) tones
  pub weights_in_range : 64 ≤ first_bad_weight N weights
  pub whole : n ≡ b
  pub clear : length (weighted_of b tones weights) ≤ first_unclear m (weighted_of b tones weights)

pub accepted : (N b m : ℕ) (tones weights : List ℕ) (room n : ℕ) → (heard_block N b m tones weights room).answer ≡ Ok n → Accepted N b m tones weights room n
unfolding heard_block
accepted N b m tones weights room n e =
    let p1 = passes _ _ _ _ _ e in
    let p2 = passes _ _ _ _ _ p1.1 in
    let p3 = passes _ _ _ _ _ p2.1 in
    let p4 = passes _ _ _ _ _ p3.1 in
    let p5 = passes _ _ _ _ _ p4.1 in
    let p6 = passes _ _ _ _ _ p5.1 in
    let p7 = passes _ _ _ _ _ p6.1 in
    let told = text_told m (weighted_of b tones weights) (Ok b) n p7.1 in
    record {
      passed = record {
        mode = not-false _ p1.0;
        lead = not-false _ p2.0;
        count = eqb-true (length tones) 64 (not-false _ p3.0);
        weighed = eqb-true (length weights) 64 (not-false _ p4.0);
        fits = ltb-false room b p5.0;
      };
      in_range = ltb-false (first_bad_tone (2 ^ b) tones) 64 p6.0;
      weights_in_range = ltb-false (first_bad_weight N weights) 64 p7.0;
      whole = same_count told.1;
      clear = told.0;
    }

-- ---- the output of an accepted block

-- the codes written out of the answer's array are the block's
pub codes_put : (N b m : ℕ) (tones weights : List ℕ) (room : ℕ) (codes out : List ℕ) (found : List Character) (n : ℕ) → (heard_block N b m tones weights room).answer ≡ Ok n
    → found ≡ padded (weighted_of b tones weights) → out ≡ over (tab (code_in found) n) codes
    → out ≡ heard_into (heard_block N b m tones weights room).answer (codes_of (weighted_of b tones weights)) codes
unfolding heard_into
codes_put N b m tones weights room codes out found n t e w =
    let whole = (accepted N b m tones weights room n t).whole in
    w
    ∙ ap (λ (x : List Character). over (tab (code_in x) n) codes) e
    ∙ ap (λ (k : ℕ). over (tab (code_in (padded (weighted_of b tones weights))) k) codes) whole
    ∙ ap (λ (x : List ℕ). over x codes) (codes_padded b tones weights)
    ∙ ap (λ (k : ℕ). over (take k (codes_of (weighted_of b tones weights))) codes) (sym whole)
    ∙ ap (λ (x : Answered ℕ). heard_into x (codes_of (weighted_of b tones weights)) codes) (sym t)
