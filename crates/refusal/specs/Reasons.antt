-- The reason of a number, by which private contracts of `sentence` speak. Its laws are `reason_is` and `number_back` of proofs/Numbers.
use Rattle.std.specs.Prelude.{◌≡◌, refl, Bool, true, false, ℕ, ◌-◌, List, [], ◌∷◌, get_or}
use Rattle.refusal.specs.declared.Reason.{Reason}
use Rattle.refusal.specs.Checks.{within}

-- the reasons of 1, 2, 3 and so on
unfoldable pub given : List Reason
given =
    Reason.Mode
    ∷ Reason.LeastLead
    ∷ Reason.Width
    ∷ Reason.Centre
    ∷ Reason.CodeCount
    ∷ Reason.Code
    ∷ Reason.ToneCount
    ∷ Reason.Tone
    ∷ Reason.Room
    ∷ Reason.Unclear
    ∷ Reason.Zero
    ∷ Reason.TooLong
    ∷ Reason.NotFound
    ∷ Reason.Weight
    ∷ Reason.NotFinite
    ∷ Reason.OutsideBand
    ∷ Reason.Depot
    ∷ Reason.DepotFull
    ∷ Reason.AllFull
    ∷ Reason.Sentence
    ∷ []

unfoldable pub reason_in : (n : ℕ) (t : Bool) → within 1 20 n ≡ t → Reason
reason_in n true h = get_or given (n - 1) Reason.Mode
reason_in n false h = Reason.Other (record { number = n; unused = h })

-- the reason that has a number
unfoldable pub reason_of : ℕ → Reason
unfolding reason_in given
reason_of n = reason_in n (within 1 20 n) refl
