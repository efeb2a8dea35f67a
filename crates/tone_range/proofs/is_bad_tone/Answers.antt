use Rattle.std.proofs.Common.{◌≡◌, ℕ, ◌+◌, ◌%◌, ◌<◌, not, ◌&&◌, eqb, ltb, leb, refl, sym, ◌∙◌, inl, inr, arith, le-ltb, lt-ltb}
use native.Mathlib.Decide.{ℕ_discrete, dec_lt}
use Rattle.chain.specs.Chain.{missing_mark}
use Rattle.tone_range.proofs.Ranges.{good_tone, bad_tone_lem}
use Rattle.tone_range.proofs.is_bad_tone.Goals as goal

one_comparison : (limit tone next : ℕ) → tone < 65536 → next ≡ (tone + 1) % 65536 → ltb limit next ≡ leb limit tone && not (eqb tone missing_mark)
one_comparison limit tone next h e = by (ℕ_discrete tone 65535) (dec_lt tone limit)
  where
    by : Dec (tone ≡ 65535) → Dec (tone < limit) → ltb limit next ≡ leb limit tone && not (eqb tone missing_mark)
    by (yes p) d = le-ltb limit next (omega arith) ∙ sym (good_tone limit tone (inr p))
    by (no n) (yes l) = le-ltb limit next (omega arith) ∙ sym (good_tone limit tone (inl l))
    by (no n) (no g) = lt-ltb limit next (omega arith) ∙ sym (bad_tone_lem limit tone (omega arith) n)

pub returns : goal.returns
returns c = one_comparison c.args.limit c.args.tone _ c.ranges.tone.fits refl
