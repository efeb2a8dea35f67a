-- What writing a sentence answers and leaves in the output. Checks when writing: 20, 9.
use Rattle.std.specs.Prelude.{cond, not, List, ℕ, ltb, length, Ok, Err}
use Rattle.lists.specs.Lists.{over}
use Rattle.refusal.specs.declared.Reason.{Reason}
use Rattle.refusal.specs.Refused.{Answered, refused_at}
use Rattle.sentence.specs.Patterns.{filled, shows}
use Rattle.sentence.specs.Sentences.{sentences, pattern_in}

-- ---- by a pattern

-- the answer for an output of room bytes
unfoldable pub write_pattern : List ℕ → ℕ → ℕ → ℕ → Answered ℕ
write_pattern pattern place lead room =
    cond (not (shows pattern place lead)) (Err (refused_at Reason.Sentence 0))
    (cond (ltb room (length (filled place lead pattern))) (Err (refused_at Reason.Room 0))
    (Ok (length (filled place lead pattern))))

-- the output after an answer: the text at its front, or as it was
unfoldable pub text_into : Answered ℕ → List ℕ → List ℕ → List ℕ
text_into (Ok n) text out = over text out
text_into (Err r) text out = out

unfoldable pub pattern_into : List ℕ → ℕ → ℕ → List ℕ → List ℕ
pattern_into pattern place lead out = text_into (write_pattern pattern place lead (length out)) (filled place lead pattern) out

-- ---- by a number, any number: the pattern is that of its row, and without a row there is none

unfoldable pub write_sentence : ℕ → ℕ → ℕ → ℕ → Answered ℕ
write_sentence n place lead room = write_pattern (pattern_in sentences n) place lead room

unfoldable pub sentence_into : ℕ → ℕ → ℕ → List ℕ → List ℕ
sentence_into n place lead out = pattern_into (pattern_in sentences n) place lead out
