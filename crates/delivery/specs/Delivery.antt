-- Document 01's refusals 11 and 12: what the codes of clear blocks deliver.
use Rattle.std.specs.Prelude.{Bool, cond, List, ℕ, zero, suc, ◌-◌, ltb, leb, eqb, length, Ok, Err}
use Rattle.lists.specs.Lists.{num}
use Rattle.lists.specs.Places.{first}
use Rattle.refusal.specs.Refused.{Answered, refused_at}
use Rattle.refusal.specs.declared.Reason.{Reason}

abbrev pub is_zero : List ℕ → ℕ → Bool
is_zero codes i = eqb (num codes i) 0

-- the place after the last nonzero code among the first i, or 0
unfoldable pub end_below : List ℕ → ℕ → ℕ
end_below codes zero = 0
end_below codes (suc i) = cond (is_zero codes i) (end_below codes i) (suc i)

-- document 01's n
unfoldable pub text_end : List ℕ → ℕ
text_end codes = end_below codes (length codes)

-- the lowest place of a 0 before n, else n
unfoldable pub first_zero : List ℕ → ℕ
first_zero codes = first (is_zero codes) (text_end codes)

-- a 0 before n; if none, at least b codes from n on; n over the limit
unfoldable pub delivery : ℕ → ℕ → List ℕ → Answered ℕ
delivery limit b codes =
    cond (ltb (first_zero codes) (text_end codes)) (Err (refused_at Reason.Zero (first_zero codes)))
    (cond (leb b (length codes - text_end codes)) (Err (refused_at Reason.Zero (text_end codes)))
    (cond (ltb limit (text_end codes)) (Err (refused_at Reason.TooLong limit))
    (Ok (text_end codes))))
