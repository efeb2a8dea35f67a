-- `encode_block` and `encoded_into`: an equation for each answer, under the checks that lead to it.
use mathlib.Core.Path.{◌≡◌, sym, ◌∙◌, ap}
use mathlib.Core.Bool.{true, false}
use mathlib.Core.List.{List}
use Prim.Native.Nat.{ℕ, ◌<◌, ◌≤◌}
use borrow.Author.Tests.{lt-ltb, le-ltb, eq-eqb, ne_eqb}
use lib.ListN.{length}
use Rattle.lists.specs.Lists.{over}
use Rattle.refusal.specs.Refused.{refused_at}
use Rattle.refusal.specs.Checks.{is_mode}
use Rattle.refusal.specs.declared.Refusal.{Refusal}
use Rattle.chain.specs.Chain.{tones_of}
use Rattle.block_encoder.specs.Encoding.{first_bad_code, encode_block, sent_into, encoded_into}
use Rattle.std.proofs.Common.{Ok, Err}
use Rattle.refusal.specs.declared.Reason.{Reason}

module _ (b : ℕ) (codes : List ℕ) (room : ℕ) where
  pub refuses_mode : is_mode b ≡ false → encode_block b codes room ≡ Err (refused_at Reason.Mode 0)
  unfolding encode_block
  refuses_mode e = simp e

  module _ (e : is_mode b ≡ true) where
    pub refuses_count : (length codes ≡ b → ⊥) → encode_block b codes room ≡ Err (refused_at Reason.CodeCount 0)
    unfolding encode_block
    refuses_count h = simp (e, ne_eqb (length codes) b h)

    module _ (n : length codes ≡ b) where
      pub refuses_room : room < 64 → encode_block b codes room ≡ Err (refused_at Reason.Room 0)
      unfolding encode_block
      refuses_room h = simp (e, eq-eqb (length codes) b n, lt-ltb room 64 h)

      pub refuses_code : 64 ≤ room → first_bad_code codes < b → encode_block b codes room ≡ Err (refused_at Reason.Code (first_bad_code codes))
      unfolding encode_block
      refuses_code h l = simp (e, eq-eqb (length codes) b n, le-ltb room 64 h, lt-ltb (first_bad_code codes) b l)

      pub encodes : 64 ≤ room → b ≤ first_bad_code codes → encode_block b codes room ≡ Ok 64
      unfolding encode_block
      encodes h l = simp (e, eq-eqb (length codes) b n, le-ltb room 64 h, le-ltb (first_bad_code codes) b l)

module _ (b : ℕ) (codes tones : List ℕ) where
  pub tones_kept : {r : Refusal} → encode_block b codes (length tones) ≡ Err r → encoded_into b codes tones ≡ tones
  unfolding encoded_into sent_into
  tones_kept e = rw e

  pub tones_written : {n : ℕ} → encode_block b codes (length tones) ≡ Ok n → encoded_into b codes tones ≡ over (tones_of b codes) tones
  unfolding encoded_into sent_into
  tones_written e = rw e

  -- a refusal that is told, with the output as it was
  pub refusal_told_lem : {r s : Refusal} → r ≡ s → encode_block b codes (length tones) ≡ Err s
      → (Err r ≡ encode_block b codes (length tones)) × (tones ≡ encoded_into b codes tones)
  refusal_told_lem p e = (ap Err p ∙ sym e, sym (tones_kept e))
