-- What only private contracts need: the symbols that are seen and the weights that count, or the refusal.
use Rattle.std.specs.Prelude.{cond, not, List, ℕ, ◌^◌, ltb, eqb, length, Ok, Err}
use Rattle.refusal.specs.Refused.{Answered, refused_at}
use Rattle.refusal.specs.Checks.{is_mode}
use Rattle.refusal.specs.declared.Reason.{Reason}
use Rattle.tone_range.specs.Range.{first_bad_tone}
use Rattle.weight_range.specs.Range.{first_bad_weight}
use Rattle.block_decoder.specs.Decoding.{heard_weights}
use Rattle.block_decoder.specs.Internal.{seen_to}
use Rattle.energy.specs.declared.Heard.{Heard}

unfoldable pub heard_of : List ℕ → List ℕ → Heard
heard_of tones weights = record { symbols = seen_to tones 64; weights = heard_weights tones weights }

unfoldable pub listened : ℕ → ℕ → List ℕ → List ℕ → Answered Heard
listened N b tones weights =
    cond (not (is_mode b)) (Err (refused_at Reason.Mode 0))
    (cond (not (eqb (length tones) 64)) (Err (refused_at Reason.ToneCount 0))
    (cond (not (eqb (length weights) 64)) (Err (refused_at Reason.ToneCount 0))
    (cond (ltb (first_bad_tone (2 ^ b) tones) 64) (Err (refused_at Reason.Tone (first_bad_tone (2 ^ b) tones)))
    (cond (ltb (first_bad_weight N weights) 64) (Err (refused_at Reason.Weight (first_bad_weight N weights)))
    (Ok (heard_of tones weights))))))
