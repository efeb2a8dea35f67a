-- What a trial's encoder wrote: as many tones as it answers, within the output, and those are what goes on the air.
use mathlib.Core.Path.{◌≡◌, refl, sym, ◌∙◌, ap, ap₂}
use mathlib.Core.Bool.{not}
use mathlib.Core.List.{List}
use Prim.Native.Nat.{ℕ, ◌≤◌, zero-le}
use native.Mathlib.Omega.{arith}
use lib.Dec.{ltb, eqb}
use lib.ListN.{length, take}
use lib.Seq.{length-take-le}
use Rattle.std.specs.Result.{result_unwrap_or}
use Rattle.std.proofs.Common.{Ok, Err}
use Rattle.lists.proofs.Fronts.{over_fits}
use Rattle.lists.proofs.Integers.{cond_cases}
use Rattle.refusal.specs.Checks.{is_mode}
use Rattle.refusal.specs.Refused.{Answered}
use Rattle.chain.specs.Chain.{tones_of}
use Rattle.chain.proofs.Tones.{tones_length}
use Rattle.block_encoder.specs.Encoding.{first_bad_code, encode_block, sent_into, encoded_into, count_sent, on_air}
use Rattle.demands.specs.Laws.{air}

count_answered : (e : Answered ℕ) → result_unwrap_or e 0 ≡ count_sent e
count_answered (Ok n) = refl
count_answered (Err r) = refl

written_fits : (b : ℕ) (text tones : List ℕ) → count_sent (encode_block b text (length tones)) ≤ length (encoded_into b text tones)
unfolding encode_block encoded_into sent_into
written_fits b text tones =
    let P : Answered ℕ → Type 0 = λ e. count_sent e ≤ length (sent_into e (tones_of b text) tones) in
    cond_cases P (not (is_mode b)) _ _ (λ _. zero-le) (λ _.
    cond_cases P (not (eqb (length text) b)) _ _ (λ _. zero-le) (λ _.
    cond_cases P (ltb (length tones) 64) _ _ (λ _. zero-le) (λ _.
    cond_cases P (ltb (first_bad_code text) b) _ _ (λ _. zero-le) (λ _.
    omega (arith, over_fits (tones_of b text) tones, tones_length b text)))))

-- of the encoder's answer, its output after the call, and the count read from the answer
module _
    (b : ℕ) (text tones : List ℕ) {tones' : List ℕ} {sent : Answered ℕ} {n : ℕ}
    (answer : sent ≡ encode_block b text (length tones)) (output : tones' ≡ encoded_into b text tones) (count : n ≡ result_unwrap_or sent 0)
  where
    sent_counted : n ≡ count_sent (encode_block b text (length tones))
    sent_counted = count ∙ count_answered sent ∙ ap count_sent answer

    pub sent_fits : n ≤ length tones'
    sent_fits = rw (sent_counted, output) (written_fits b text tones)

    pub sent_cut : n ≡ length (take n tones')
    sent_cut = sym (length-take-le n tones' sent_fits)

    pub sent_is : take n tones' ≡ air b text tones
    unfolding air on_air
    sent_is = ap₂ take sent_counted output
