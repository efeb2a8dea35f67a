-- Document 02, order 8: the list of sentences. Each row is a reason and its pattern, where `#` stands for the place and `%` for the lead. A
-- row goes by its reason's number, which its pattern begins with.
use Rattle.std.specs.Prelude.{Bool, cond, List, [], ◌∷◌, ℕ, eqb}
use Prim.Native.String.{String}
use Rattle.text.specs.Ascii.{ascii}
use Rattle.refusal.specs.declared.Reason.{Reason}
use Rattle.refusal.specs.declared.Refusal.{Refusal}
use Rattle.refusal.specs.Refused.{number_of}
use Rattle.sentence.specs.Patterns.{filled, shows}

pub record Row : Type 0 where
  pub reason : Reason
  pub pattern : List ℕ

unfoldable pub row : Reason → String → Row
row reason text = record { reason = reason; pattern = ascii text }

abbrev pub number : Row → ℕ
number r = number_of r.reason

unfoldable pub sentences : List Row
sentences =
    row Reason.Mode "Refusal 1: the mode is not from 1 to 8 (place #)."
    ∷ row Reason.LeastLead "Refusal 2: the set lead is out of its range (place #)."
    ∷ row Reason.Width "Refusal 3: the width is not 125, 250, 500, 1000 or 2000 Hz (place #)."
    ∷ row Reason.Centre "Refusal 4: the centre is above 10000 Hz, or twice the centre is below the width (place #)."
    ∷ row Reason.CodeCount "Refusal 5: the count of codes or of blocks is not allowed (place #)."
    ∷ row Reason.Code "Refusal 6: the code or byte at place # cannot be sent."
    ∷ row Reason.ToneCount "Refusal 7: the count of tones or of weights is not allowed (place #)."
    ∷ row Reason.Tone "Refusal 8: the tone at place # is neither one of the mode's nor an allowed missing mark."
    ∷ row Reason.Room "Refusal 9: the output has not the size that is needed (place #)."
    ∷ row Reason.Unclear "Refusal 10: the character at place # is unclear: its lead is %."
    ∷ row Reason.Zero "Refusal 11: the text has a zero at place # that is not filling."
    ∷ row Reason.TooLong "Refusal 12: the text is too long: it goes on at place #."
    ∷ row Reason.NotFound "Refusal 13: no start in the run of tones is accepted (place #)."
    ∷ row Reason.Weight "Refusal 14: the weight at place # is above 15."
    ∷ row Reason.NotFinite "Refusal 15: the measured frequency is infinite or not a number (place #)."
    ∷ row Reason.OutsideBand "Refusal 16: the measured frequency lies outside the band (place #)."
    ∷ row Reason.Depot "Refusal 17: the depot is not from 0 to 29 (place #)."
    ∷ row Reason.DepotFull "Refusal 18: depot # has 8 blocks waiting."
    ∷ row Reason.AllFull "Refusal 19: the sender has no place left that depot # may take."
    ∷ row Reason.Sentence "Refusal 20: this is no sentence of the list from place # on."
    ∷ []

-- ---- refusals and their sentences, in any list of rows

-- the pattern of a number, empty if no row has it
unfoldable pub pattern_in : List Row → ℕ → List ℕ
pattern_in [] n = []
pattern_in (r ∷ rs) n = cond (eqb (number r) n) r.pattern (pattern_in rs n)

-- a refusal that has a sentence: its number has a row, and its place and lead are in range
unfoldable pub is_known_in : List Row → Refusal → Bool
is_known_in rows r = shows (pattern_in rows (number_of r.reason)) r.place r.lead

unfoldable pub sentence_in : List Row → Refusal → List ℕ
sentence_in rows r = filled r.place r.lead (pattern_in rows (number_of r.reason))

-- ---- in the list

unfoldable pub is_known : Refusal → Bool
is_known r = is_known_in sentences r

unfoldable pub sentence_of : Refusal → List ℕ
sentence_of r = sentence_in sentences r
