-- The tones below a limit: their count, that they are in range, and that tones in range are their own; and the law.
use mathlib.Core.Path.{◌≡◌, refl, sym, ◌∙◌, ap}
use mathlib.Core.Bool.{Bool, true, false, cond}
use mathlib.Core.List.{List}
use mathlib.Core.Logic.{◌⊎◌, inl, inr}
use Prim.Native.Nat.{ℕ, ◌<◌, ◌^◌}
use native.Mathlib.Omega.{arith}
use borrow.Author.Tests.{lt-ltb, ltb-true}
use lib.Dec.{ltb}
use lib.ListN.{length}
use Rattle.lists.specs.Lists.{num}
use Rattle.lists.proofs.Tables.{tab_length, tab_at, tab_ext, tab_self}
use Rattle.chain.specs.Chain.{missing_mark}
use Rattle.tone_range.specs.Range.{HasTones}
use Rattle.block_decoder.specs.Decoding.{decode_block, decoded_into}
use Rattle.checked_block.specs.Checked.{tone_below, tones_below}
use Rattle.checked_block.specs.Laws.{InRange}

module _ (limit : ℕ) (tones : List ℕ) where
  pub below_count : length (tones_below limit tones) ≡ length tones
  unfolding tones_below
  below_count = tab_length _ (length tones)

  pub below_at : (t : ℕ) → t < length tones → num (tones_below limit tones) t ≡ tone_below limit (num tones t)
  unfolding tones_below
  below_at t h = tab_at (λ k. tone_below limit (num tones k)) 0 (length tones) t h

below_limit : (limit tone : ℕ) → (tone_below limit tone < limit) ⊎ (tone_below limit tone ≡ missing_mark)
unfolding tone_below
below_limit limit tone = by (ltb tone limit) refl
  where
    by : (s : Bool) → ltb tone limit ≡ s → (cond s tone missing_mark < limit) ⊎ (cond s tone missing_mark ≡ missing_mark)
    by true e = inl (ltb-true tone limit e)
    by false e = inr refl

pub below_in_range : (limit : ℕ) (tones : List ℕ) → length tones ≡ 64 → HasTones limit (tones_below limit tones)
below_in_range limit tones n = record {
  count = below_count limit tones ∙ n;
  each = λ t h. rw (below_at limit tones t (omega arith)) (below_limit limit (num tones t));
}

-- ---- tones in range

same_tone : (limit tone : ℕ) → (tone < limit) ⊎ (tone ≡ missing_mark) → tone_below limit tone ≡ tone
unfolding tone_below
same_tone limit tone (inl h) = rw (lt-ltb tone limit h)
same_tone limit tone (inr e) = by (ltb tone limit)
  where
    by : (s : Bool) → cond s tone missing_mark ≡ tone
    by true = refl
    by false = sym e

pub same_tones : (limit : ℕ) (tones : List ℕ) → HasTones limit tones → tones_below limit tones ≡ tones
unfolding tones_below
same_tones limit tones w =
    tab_ext 0 (λ t. tone_below limit (num tones t)) (num tones) (length tones) (λ t h. same_tone limit (num tones t) (w.each t (omega (arith, w.count))))
    ∙ tab_self 0 tones

pub in_range : InRange
in_range = record {
  answer = λ b m tones room w. ap (λ (x : List ℕ). (decode_block b m x room).answer) (same_tones (2 ^ b) tones w);
  output = λ b m tones out w. ap (λ (x : List ℕ). decoded_into b m x out) (same_tones (2 ^ b) tones w);
}
