-- The answer to a checked block and the output after it, by the characters that were decided, and where it is refused before.
use mathlib.Core.Path.{◌≡◌, sym, ◌∙◌, ap}
use mathlib.Core.List.{List}
use Prim.Native.Nat.{ℕ, ◌<◌, ◌≤◌, ◌^◌}
use native.Mathlib.Omega.{arith}
use borrow.Author.Tests.{lt-ltb, le-ltb}
use lib.ListN.{length}
use Rattle.lists.specs.Lists.{tab, over}
use Rattle.refusal.specs.Refused.{Answered, refused_at, unclear_at}
use Rattle.refusal.specs.Checks.{IsSet}
use Rattle.refusal.specs.declared.Reason.{Reason}
use Rattle.refusal.specs.declared.Refusal.{Refusal}
use Rattle.decision.specs.declared.Character.{Character}
use Rattle.block_decoder.specs.Decoding.{plain, characters_of, codes_of, lead_in, unless_unclear, padded, refused, decode_block, heard_into, heard_block_into}
use Rattle.block_decoder.specs.Internal.{code_in, first_unclear_in, judgement_in}
use Rattle.block_decoder.specs.declared.BlockDecoded.{BlockDecoded}
use Rattle.block_decoder.proofs.Answers.{decided}
use Rattle.block_decoder.proofs.Characters.{codes_padded, judgement_padded}
use Rattle.block_decoder.proofs.DecodeCases.{codes_kept}
use Rattle.checked_block.specs.Checked.{tones_below, decode_checked, checked_into}
use Rattle.checked_block.proofs.CheckedTones.{below_in_range}
use Rattle.std.proofs.Common.{Ok, Err}

-- ---- by the characters

unclear_at_lem : (n m : ℕ) (characters : List Character) (q : ℕ) → q < n → first_unclear_in n m characters ≡ q
    → judgement_in n m characters ≡ Err (unclear_at q (lead_in characters q))
unfolding judgement_in
unclear_at_lem n m characters q h e = rw (e, lt-ltb q n h)

clear_at : (n m : ℕ) (characters : List Character) → first_unclear_in n m characters ≡ n → judgement_in n m characters ≡ Ok n
unfolding judgement_in
clear_at n m characters e = rw (e, le-ltb n n (omega arith))

module _ (b m : ℕ) (tones : List ℕ) (found : List Character) (e : found ≡ padded (characters_of b tones)) where
  judgement : judgement_in b m found ≡ unless_unclear m (characters_of b tones) (Ok b)
  judgement = ap (judgement_in b m) e ∙ judgement_padded b tones plain m

  pub unclear_told : (q : ℕ) → q < b → first_unclear_in b m found ≡ q → unless_unclear m (characters_of b tones) (Ok b) ≡ Err (unclear_at q (lead_in found q))
  unclear_told q h p = sym judgement ∙ unclear_at_lem b m found q h p

  pub clear_told : first_unclear_in b m found ≡ b → unless_unclear m (characters_of b tones) (Ok b) ≡ Ok b
  clear_told p = sym judgement ∙ clear_at b m found p

  pub text_put : (codes out : List ℕ) → out ≡ over (tab (code_in found) b) codes → out ≡ heard_into (Ok b) (codes_of (characters_of b tones)) codes
  unfolding heard_into
  text_put codes out w = w ∙ ap (λ (x : List Character). over (tab (code_in x) b) codes) e ∙ ap (λ (x : List ℕ). over x codes) (codes_padded b tones plain)

-- ---- by the checks

module _ (b m : ℕ) (tones codes : List ℕ) where
  answered : (reason : Reason) (place : ℕ) → decode_block b m (tones_below (2 ^ b) tones) (length codes) ≡ refused reason place
      → decode_checked b m tones (length codes) ≡ Err (refused_at reason place)
  unfolding refused
  answered reason place e = ap (λ (d : BlockDecoded). d.answer) e

  -- a refusal that is told, with the output as it was
  pub refusal_told_lem : {r : Refusal} (reason : Reason) (place : ℕ) → r ≡ refused_at reason place → decode_block b m (tones_below (2 ^ b) tones) (length codes) ≡ refused reason place
      → (Err r ≡ decode_checked b m tones (length codes)) × (codes ≡ checked_into b m tones codes)
  refusal_told_lem reason place p e =
      let a = answered reason place e in
      (ap Err p ∙ sym a, sym (codes_kept 1 b m (tones_below (2 ^ b) tones) plain codes a))

  -- what the characters are answered with, and the output after it
  pub decision_told : {answer : Answered ℕ} {out : List ℕ} → IsSet b m → length tones ≡ 64 → b ≤ length codes
      → answer ≡ unless_unclear m (characters_of b (tones_below (2 ^ b) tones)) (Ok b)
      → out ≡ heard_into answer (codes_of (characters_of b (tones_below (2 ^ b) tones))) codes
      → (answer ≡ decode_checked b m tones (length codes)) × (out ≡ checked_into b m tones codes)
  unfolding heard_block_into
  decision_told {answer} s n fits e w =
      let told : answer ≡ decode_checked b m tones (length codes) =
      e ∙ sym (ap (λ (d : BlockDecoded). d.answer) (decided b m (tones_below (2 ^ b) tones) (length codes) s (below_in_range (2 ^ b) tones n) fits)) in
      (told, w ∙ ap (λ (d : Answered ℕ). heard_into d (codes_of (characters_of b (tones_below (2 ^ b) tones))) codes) told)
