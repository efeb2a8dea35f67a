-- Document 01, "Hearing a block", with the weights of document 02, order 3, and what decoding a block answers and leaves in the output.
-- Checks when hearing: 1, 2, 7, 9, 8, 14, 10. Plain hearing is hearing with weight 1 throughout, so that 14 does not occur.
use Rattle.std.specs.Prelude.{Bool, cond, not, List, map, ℕ, ◌+◌, ◌%◌, ◌^◌, ltb, eqb, ℤ, pos, length, get_or, take, replicate, Ok, Err}
use Rattle.lists.specs.Lists.{tab, num, over}
use Rattle.lists.specs.Places.{first}
use Rattle.refusal.specs.Refused.{Answered, refused_at, unclear_at}
use Rattle.refusal.specs.Checks.{is_lead_at, is_mode}
use Rattle.walsh.specs.Words.{signed, corr, turned}
use Rattle.decision.specs.Decision.{decision, none}
use Rattle.decision.specs.declared.Character.{Character}
use Rattle.chain.specs.Chain.{missing_mark, bit, key_bit}
use Rattle.chain.specs.Tables.{symbol_of}
use Rattle.tone_range.specs.Range.{first_bad_tone}
use Rattle.weight_range.specs.Range.{throughout, first_bad_weight}
use Rattle.block_decoder.specs.declared.BlockDecoded.{BlockDecoded}
use Rattle.refusal.specs.declared.Reason.{Reason}

-- ---- the characters

-- the weights of plain hearing
abbrev pub plain : List ℕ
plain = throughout 1

-- the weight that a tone counts with; a missing one has none
unfoldable pub heard_weight : ℕ → ℕ → ℕ
heard_weight tone weight = cond (eqb tone missing_mark) 0 weight

-- the weights that 64 tones count with
unfoldable pub heard_weights : List ℕ → List ℕ → List ℕ
heard_weights tones weights = tab (λ t. heard_weight (num tones t) (num weights t)) 64

-- the symbol of a tone; a missing tone's is missing too
unfoldable pub heard_symbol : ℕ → ℕ
heard_symbol tone = cond (eqb tone missing_mark) missing_mark (symbol_of tone)

unfoldable pub symbols_of : List ℕ → List ℕ
symbols_of tones = tab (λ t. heard_symbol (num tones t)) 64

-- what a symbol counts for a character whose bit is at place, after XOR with a key bit: +weight for 0, -weight for 1, and 0 if it is missing,
-- whatever its weight
unfoldable pub count_of : Bool → ℕ → ℕ → ℕ → ℤ
count_of k place weight symbol = cond (eqb symbol missing_mark) (pos 0) (signed (turned k (bit symbol place)) (pos weight))

-- what symbol t counts for character q: interleaver and key undone
unfoldable pub count_in : ℕ → List ℕ → List ℕ → ℕ → ℕ → ℤ
count_in b symbols weights q t = count_of (key_bit q t) ((q + t) % b) (num weights t) (num symbols t)

-- the decision on character q, by the weighted sums
unfoldable pub weighted_at : ℕ → List ℕ → List ℕ → ℕ → Character
weighted_at b tones weights q = decision (corr (count_in b (symbols_of tones) weights q))

-- the decisions on the b characters of a block
unfoldable pub weighted_of : ℕ → List ℕ → List ℕ → List Character
weighted_of b tones weights = tab (weighted_at b tones weights) b

-- the same in plain hearing
abbrev pub character_at : ℕ → List ℕ → ℕ → Character
character_at b tones q = weighted_at b tones plain q

abbrev pub characters_of : ℕ → List ℕ → List Character
characters_of b tones = weighted_of b tones plain

unfoldable pub codes_of : List Character → List ℕ
codes_of characters = map (λ c. c.code) characters

abbrev pub lead_in : List Character → ℕ → ℕ
lead_in characters q = (get_or characters q none).lead

-- ---- the answer

-- the lowest of the characters whose lead is under m, else their count
unfoldable pub first_unclear : ℕ → List Character → ℕ
first_unclear m characters = first (λ q. ltb (lead_in characters q) m) (length characters)

-- 10 with the place and the lead of the lowest unclear character; if all are clear, the answer that is given for them
unfoldable pub unless_unclear : ℕ → List Character → Answered ℕ → Answered ℕ
unless_unclear m characters clear =
    cond (ltb (first_unclear m characters) (length characters))
    (Err (unclear_at (first_unclear m characters) (lead_in characters (first_unclear m characters))))
    clear

-- an answer's eight characters: those of the block, and none after them
unfoldable pub padded : List Character → List Character
padded characters = over characters (replicate 8 none)

-- a refusal before any character is decided
unfoldable pub refused : Reason → ℕ → BlockDecoded
refused reason place = record { answer = Err (refused_at reason place); characters = replicate 8 none }

-- the answer for an output of room codes, where weights are 0 to N, and m is 1 to 64 * N
unfoldable pub heard_block : ℕ → ℕ → ℕ → List ℕ → List ℕ → ℕ → BlockDecoded
heard_block N b m tones weights room =
    cond (not (is_mode b)) (refused Reason.Mode 0)
    (cond (not (is_lead_at N m)) (refused Reason.LeastLead 0)
    (cond (not (eqb (length tones) 64)) (refused Reason.ToneCount 0)
    (cond (not (eqb (length weights) 64)) (refused Reason.ToneCount 0)
    (cond (ltb room b) (refused Reason.Room 0)
    (cond (ltb (first_bad_tone (2 ^ b) tones) 64) (refused Reason.Tone (first_bad_tone (2 ^ b) tones))
    (cond (ltb (first_bad_weight N weights) 64) (refused Reason.Weight (first_bad_weight N weights))
    (record { answer = unless_unclear m (weighted_of b tones weights) (Ok b); characters = padded (weighted_of b tones weights) })))))))

-- plain hearing
abbrev pub decode_block : ℕ → ℕ → List ℕ → ℕ → BlockDecoded
decode_block b m tones room = heard_block 1 b m tones plain room

-- hearing with weights from 0 to 15
abbrev pub decode_weighted : ℕ → ℕ → List ℕ → List ℕ → ℕ → BlockDecoded
decode_weighted b m tones weights room = heard_block 15 b m tones weights room

-- ---- the output

-- after an answer: the first n codes at its front, or as it was
unfoldable pub heard_into : Answered ℕ → List ℕ → List ℕ → List ℕ
heard_into (Ok n) codes out = over (take n codes) out
heard_into (Err r) codes out = out

unfoldable pub heard_block_into : ℕ → ℕ → ℕ → List ℕ → List ℕ → List ℕ → List ℕ
heard_block_into N b m tones weights out = heard_into (heard_block N b m tones weights (length out)).answer (codes_of (weighted_of b tones weights)) out

abbrev pub decoded_into : ℕ → ℕ → List ℕ → List ℕ → List ℕ
decoded_into b m tones out = heard_block_into 1 b m tones plain out

abbrev pub weighted_into : ℕ → ℕ → List ℕ → List ℕ → List ℕ → List ℕ
weighted_into b m tones weights out = heard_block_into 15 b m tones weights out
