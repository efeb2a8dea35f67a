-- The laws of sentences: document 02, order 8. Each is the promise of the function of the same name in src/laws.rt. They are of the list as
-- a whole, and follow from the condition on it that is computed, `sentence::laws::sound`; `Reading` also from there being a row.
use Rattle.std.specs.Prelude.{true, List, ◌++◌, ◌≡◌, ℕ, length, take, Ok}
use Rattle.lists.specs.Lists.{every}
use Rattle.refusal.specs.declared.Reason.{Reason}
use Rattle.refusal.specs.declared.Refusal.{Refusal}
use Rattle.refusal.specs.Refused.{Answered, number_of}
use Rattle.sentence.specs.Sentences.{is_known, sentence_of}
use Rattle.sentence.specs.Condition.{is_printable, heading}
use Rattle.sentence.specs.Reading.{read_sentence}
use Rattle.sentence.specs.Writing.{write_sentence, sentence_into}
use Rattle.sentence_laws.specs.Meaning.{Means}

-- Two different refusals, places or leads never have the same sentence.
pub record Distinct : Type 0 where
  pub apart : (r s : Refusal) → is_known r ≡ true → is_known s ≡ true → sentence_of r ≡ sentence_of s → r ≡ s

-- What bytes are read as is what they mean, and nothing else is.
pub record Reading : Type 0 where
  pub meant : (bytes : List ℕ) → Means bytes (read_sentence bytes)
  pub only : (bytes : List ℕ) (a : Answered Refusal) → Means bytes a → a ≡ read_sentence bytes

-- A sentence is read back to what it came from.
pub record ReadBack : Type 0 where
  pub back : (r : Refusal) → is_known r ≡ true → read_sentence (sentence_of r) ≡ Ok r

-- What writing wrote, by any number, is read back to the reason of that number and to the place and lead, whatever stands after it in the
-- output.
pub record RoundTrip : Type 0 where
  pub back : (number place lead : ℕ) (out : List ℕ) (n : ℕ) → write_sentence number place lead (length out) ≡ Ok n
      → (reason : Reason) × (number_of reason ≡ number)
      × (read_sentence (take n (sentence_into number place lead out)) ≡ Ok (record { reason = reason; place = place; lead = lead }))

-- A sentence begins with its refusal's number, in printable ASCII.
pub record Form : Type 0 where
  pub begins : (r : Refusal) → is_known r ≡ true → (words : List ℕ) × (sentence_of r ≡ heading (number_of r.reason) ++ words)
  pub printable : (r : Refusal) → is_known r ≡ true → every is_printable (sentence_of r) ≡ true
