-- The decisions on a block's characters: their count, each of them, their codes, and the array of eight that holds them.
use mathlib.Core.Path.{◌≡◌, refl, sym, ◌∙◌, ap}
use mathlib.Core.Bool.{Bool, true, false, cond}
use mathlib.Core.List.{List}
use Prim.Native.Nat.{ℕ, ◌<◌}
use native.Mathlib.Omega.{arith}
use borrow.Author.Tests.{ltb-true}
use lib.Dec.{ltb}
use lib.ListN.{length, get_or, take, replicate}
use lib.Seq.{take_all}
use Rattle.lists.specs.Lists.{tab}
use Rattle.lists.proofs.Fronts.{over_tab_at}
use Rattle.lists.proofs.Places.{first_ext}
use Rattle.lists.proofs.Tables.{tab_length, tab_at, tab_ext, tab_map}
use Rattle.refusal.specs.Refused.{unclear_at}
use Rattle.decision.specs.Decision.{none}
use Rattle.decision.specs.declared.Character.{Character}
use Rattle.block_decoder.specs.Decoding.{weighted_at, weighted_of, codes_of, lead_in, first_unclear, unless_unclear, padded}
use Rattle.block_decoder.specs.Internal.{code_in, first_unclear_in, judgement_in}
use Rattle.std.proofs.Common.{Ok, Err}

module _ (b : ℕ) (tones weights : List ℕ) where
  pub characters_length : length (weighted_of b tones weights) ≡ b
  unfolding weighted_of
  characters_length = tab_length (weighted_at b tones weights) b

  pub character_at_lem : (q : ℕ) → q < b → get_or (weighted_of b tones weights) q none ≡ weighted_at b tones weights q
  unfolding weighted_of
  character_at_lem q h = tab_at (weighted_at b tones weights) none b q h

  pub character_padded : (q : ℕ) → q < b → get_or (padded (weighted_of b tones weights)) q none ≡ weighted_at b tones weights q
  unfolding padded weighted_of
  character_padded q h = over_tab_at (weighted_at b tones weights) none b (replicate 8 none) q h

  -- eight characters tell of a block's own what the block's own tell
  pub same_lead : (q : ℕ) → q < b → lead_in (padded (weighted_of b tones weights)) q ≡ lead_in (weighted_of b tones weights) q
  same_lead q h = ap (λ (c : Character). c.lead) (character_padded q h ∙ sym (character_at_lem q h))

  pub codes_are : codes_of (weighted_of b tones weights) ≡ tab (λ q. (weighted_at b tones weights q).code) b
  unfolding codes_of weighted_of
  codes_are = tab_map (λ c. c.code) (weighted_at b tones weights) b

  pub codes_length : length (codes_of (weighted_of b tones weights)) ≡ b
  codes_length = ap length codes_are ∙ tab_length (λ q. (weighted_at b tones weights q).code) b

  pub codes_padded : tab (code_in (padded (weighted_of b tones weights))) b ≡ take b (codes_of (weighted_of b tones weights))
  codes_padded =
      tab_ext 0 (code_in (padded (weighted_of b tones weights))) (λ q. (weighted_at b tones weights q).code) b (λ q h. ap (λ (c : Character). c.code) (character_padded q h))
      ∙ sym codes_are
      ∙ sym (take_all b (codes_of (weighted_of b tones weights)) (omega (arith, codes_length)))

  module _ (m : ℕ) where
    first_padded : first_unclear_in b m (padded (weighted_of b tones weights)) ≡ first_unclear m (weighted_of b tones weights)
    unfolding first_unclear_in first_unclear
    first_padded =
        rw characters_length
        (first_ext _ _ b (λ q h. ap (λ (lead : ℕ). ltb lead m) (same_lead q h)))

    pub judgement_padded : judgement_in b m (padded (weighted_of b tones weights)) ≡ unless_unclear m (weighted_of b tones weights) (Ok b)
    unfolding judgement_in unless_unclear
    judgement_padded = rw (first_padded, characters_length) (by (ltb p b) refl)
      where
        p : ℕ
        p = first_unclear m (weighted_of b tones weights)

        by : (t : Bool) → ltb p b ≡ t
            → cond t (Err (unclear_at p (lead_in (padded (weighted_of b tones weights)) p))) (Ok b) ≡ cond t (Err (unclear_at p (lead_in (weighted_of b tones weights) p))) (Ok b)
        by true e = ap (λ (lead : ℕ). Err (unclear_at p lead)) (same_lead p (ltb-true p b e))
        by false e = refl
