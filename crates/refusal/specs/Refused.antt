-- Document 01, "Who can cause a refusal": a refusal returns its number and a place.
use Rattle.std.specs.Prelude.{ℕ, Result}
use Rattle.refusal.specs.declared.Reason.{Reason}
use Rattle.refusal.specs.declared.Refusal.{Refusal}

-- the number of document 01, or of document 02; of one that neither has, its own
unfoldable pub number_of : Reason → ℕ
number_of Reason.Mode = 1
number_of Reason.LeastLead = 2
number_of Reason.Width = 3
number_of Reason.Centre = 4
number_of Reason.CodeCount = 5
number_of Reason.Code = 6
number_of Reason.ToneCount = 7
number_of Reason.Tone = 8
number_of Reason.Room = 9
number_of Reason.Unclear = 10
number_of Reason.Zero = 11
number_of Reason.TooLong = 12
number_of Reason.NotFound = 13
number_of Reason.Weight = 14
number_of Reason.NotFinite = 15
number_of Reason.OutsideBand = 16
number_of Reason.Depot = 17
number_of Reason.DepotFull = 18
number_of Reason.AllFull = 19
number_of Reason.Sentence = 20
number_of (Reason.Other u) = u.number

abbrev pub refused_at : Reason → ℕ → Refusal
refused_at reason place = record { reason = reason; place = place; lead = 0 }

-- unclear: the place of the lowest unclear character, and its lead
abbrev pub unclear_at : ℕ → ℕ → Refusal
unclear_at place lead = record { reason = Reason.Unclear; place = place; lead = lead }

-- what an entry answers, or the refusal
abbrev pub Answered : Type 0 → Type 0
Answered A = Result A Refusal
