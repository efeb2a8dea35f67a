-- What encoding a block answers and leaves in the output. Checks when sending: 1, 5, 9, 6.
use Rattle.std.specs.Prelude.{Bool, cond, not, List, ◌≡◌, ℕ, ◌<◌, ltb, leb, eqb, length, take, Ok, Err}
use Rattle.lists.specs.Lists.{num, over}
use Rattle.lists.specs.Places.{first}
use Rattle.refusal.specs.Refused.{Answered, refused_at}
use Rattle.refusal.specs.Checks.{is_mode}
use Rattle.chain.specs.Chain.{tones_of}
use Rattle.refusal.specs.declared.Reason.{Reason}

-- a text is any b codes from 0 to 127
pub record IsText (b : ℕ) (text : List ℕ) : Type 0 where
  pub count : length text ≡ b
  pub codes : (q : ℕ) → q < b → num text q < 128

-- ---- the answer

abbrev pub bad_code : List ℕ → ℕ → Bool
bad_code codes q = leb 128 (num codes q)

-- the lowest place of a code of 128 or more, else the count of codes
unfoldable pub first_bad_code : List ℕ → ℕ
first_bad_code codes = first (bad_code codes) (length codes)

-- the answer for an output of room tones
unfoldable pub encode_block : ℕ → List ℕ → ℕ → Answered ℕ
encode_block b codes room =
    cond (not (is_mode b)) (Err (refused_at Reason.Mode 0))
    (cond (not (eqb (length codes) b)) (Err (refused_at Reason.CodeCount 0))
    (cond (ltb room 64) (Err (refused_at Reason.Room 0))
    (cond (ltb (first_bad_code codes) b) (Err (refused_at Reason.Code (first_bad_code codes)))
    (Ok 64))))

-- ---- the output

-- after an answer: the tones at its front, or as it was
unfoldable pub sent_into : Answered ℕ → List ℕ → List ℕ → List ℕ
sent_into (Ok n) tones out = over tones out
sent_into (Err r) tones out = out

unfoldable pub encoded_into : ℕ → List ℕ → List ℕ → List ℕ
encoded_into b codes out = sent_into (encode_block b codes (length out)) (tones_of b codes) out

-- the count of tones written
abbrev pub count_sent : Answered ℕ → ℕ
count_sent (Ok n) = n
count_sent (Err r) = 0

-- the tones written, which go on the air
unfoldable pub on_air : Answered ℕ → List ℕ → List ℕ
on_air answer out = take (count_sent answer) out
