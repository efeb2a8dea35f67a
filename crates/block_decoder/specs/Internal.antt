-- What only private contracts need: the symbols that are seen, and what is found in an answer's array of eight
-- characters.
use Rattle.std.specs.Prelude.{cond, not, List, ℕ, ◌^◌, ltb, eqb, length, get_or, replicate, Ok, Err}
use Rattle.lists.specs.Lists.{tab, num, over}
use Rattle.lists.specs.Places.{first}
use Rattle.refusal.specs.Refused.{Answered, refused_at, unclear_at}
use Rattle.refusal.specs.Checks.{is_mode, is_lead_at}
use Rattle.refusal.specs.declared.Reason.{Reason}
use Rattle.decision.specs.Decision.{none}
use Rattle.decision.specs.declared.Character.{Character}
use Rattle.chain.specs.Chain.{missing_mark}
use Rattle.chain.specs.Tables.{symbol_of}
use Rattle.tone_range.specs.Range.{first_bad_tone}
use Rattle.weight_range.specs.Range.{first_bad_weight}
use Rattle.block_decoder.specs.Decoding.{weighted_of, lead_in, padded}

-- ---- symbols

-- the symbol of a tone, and 0 for a missing one, which has weight 0
unfoldable pub seen_symbol : ℕ → ℕ
seen_symbol tone = cond (eqb tone missing_mark) 0 (symbol_of tone)

-- 64 symbols: those of the first n tones, and 0 after them
unfoldable pub seen_to : List ℕ → ℕ → List ℕ
seen_to tones n = over (tab (λ t. seen_symbol (num tones t)) n) (replicate 64 0)

-- ---- the decisions, or the refusal before any is made

unfoldable pub listened : ℕ → ℕ → ℕ → List ℕ → List ℕ → ℕ → Answered (List Character)
listened N b m tones weights room =
    cond (not (is_mode b)) (Err (refused_at Reason.Mode 0))
    (cond (not (is_lead_at N m)) (Err (refused_at Reason.LeastLead 0))
    (cond (not (eqb (length tones) 64)) (Err (refused_at Reason.ToneCount 0))
    (cond (not (eqb (length weights) 64)) (Err (refused_at Reason.ToneCount 0))
    (cond (ltb room b) (Err (refused_at Reason.Room 0))
    (cond (ltb (first_bad_tone (2 ^ b) tones) 64) (Err (refused_at Reason.Tone (first_bad_tone (2 ^ b) tones)))
    (cond (ltb (first_bad_weight N weights) 64) (Err (refused_at Reason.Weight (first_bad_weight N weights)))
    (Ok (padded (weighted_of b tones weights)))))))))

-- ---- the first n characters of eight

abbrev pub code_in : List Character → ℕ → ℕ
code_in characters q = (get_or characters q none).code

unfoldable pub first_unclear_in : ℕ → ℕ → List Character → ℕ
first_unclear_in n m characters = first (λ q. ltb (lead_in characters q) m) n

unfoldable pub judgement_in : ℕ → ℕ → List Character → Answered ℕ
judgement_in n m characters =
    cond (ltb (first_unclear_in n m characters) n) (Err (unclear_at (first_unclear_in n m characters) (lead_in characters (first_unclear_in n m characters)))) (Ok n)
